use Rattle.std.proofs.Common.{List, ℕ, [], ◌∷◌, ◌++◌, ap, codes, option_map, ◌∙◌}
use Rattle.std.proofs.lemmas.Result.{on_ok_weaker}
use Rattle.hhas_lex.specs.Spaced.{text_of}
use Rattle.hhas_lex.specs.Tokens.{Mark}
use Rattle.hhbc_repo.specs.CanonicalText.{stated_pieces, tight, valued}
use Rattle.hhbc_repo.specs.WrittenTypes.{canonical_type}
use Rattle.hhas_write.proofs.Written.{three_written}
use Rattle.hhas_write.proofs.class_texts.push_property.Goals as goal

pub returns : goal.returns
returns c =
    let property = c.args.property.now in
    let old = c.args.out.now in
    let named = ap (λ (name : List ℕ). old ++ text_of (valued (codes "property") name property.initial)) c.bytes.ensures in
    on_ok_weaker c.append.result
    (λ e. three_written (valued (codes "property") property.name property.initial) (stated_pieces (codes "holds") (option_map (canonical_type c.args.classes.now) property.stated)) (tight (Mark 59) ∷ [])
    old c.push_valued.new.out c.push_stated.new.out c.append.new.self (c.in_ok-push_valued.ensures ∙ named) c.in_ok-push_stated.ensures e)
    c.append.ensures.ok
