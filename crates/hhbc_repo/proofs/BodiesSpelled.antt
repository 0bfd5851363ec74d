-- Bodies that fit are spelled by their pieces, and these are told apart.
use Rattle.std.proofs.Common.{◌≡◌, ℕ, zero, suc, true, not, ◌^◌, nat_le, List, [], ◌∷◌, ◌++◌, Option, Some, None, codes, pos, refl, sym, ap, subst, ◌∙◌, append_assoc, arith, inl, inr}
use Rattle.std.specs.List.{list_all, flat_map}
use Rattle.std.proofs.lemmas.Bool.{and_parts, le-leb, leb-true}
use Rattle.hhas_lex.specs.Shape.{is_int64}
use Rattle.hhas_lex.specs.Spaced.{Spaced}
use Rattle.hhas_lex.specs.Spelling.{is_proper, is_word}
use Rattle.hhas_lex.specs.Tokens.{Token, Directive, Word, Local, Integer, Mark}
use Rattle.type_lattice.specs.InRange.{where_there}
use Rattle.hhbc_repo.specs.declared.parts.BodyParts.{BodyParts}
use Rattle.hhbc_repo.specs.declared.parts.ItemParts.{ItemParts}
use Rattle.hhbc_repo.specs.declared.parts.ItemParts.TheVariants as items
use Rattle.hhbc_repo.specs.declared.parts.TypeParts.{TypeParts}
use Rattle.hhbc_repo.specs.LinkFaults.{Name}
use Rattle.hhbc_repo.specs.Languages.{Behind, Ended, Perhaps, Separated}
use Rattle.hhbc_repo.specs.TypeSyntax.{AType}
use Rattle.hhbc_repo.specs.CodeSyntax.{ALocal, is_reserved}
use Rattle.hhbc_repo.specs.BodySyntax.{Params, Declared, Iterators, ABody}
use Rattle.hhbc_repo.specs.TypeFits.{type_fits}
use Rattle.hhbc_repo.specs.Fits.{is_label, position_fits, item_fits, body_fits}
use Rattle.hhbc_repo.specs.CanonicalText.{line, spaced, tight, outer, type_pieces, position_pieces, item_pieces, more_local, params_pieces, stated_pieces, locals_pieces, iters_pieces, body_pieces}
use Rattle.hhbc_repo.proofs.Clearing.{tokens_in}
use Rattle.hhbc_repo.proofs.ItemsSpelled.{items_spelled}
use Rattle.hhbc_repo.proofs.CodesClear.{position_clear}
use Rattle.hhbc_repo.proofs.CodesSpelled.{a_type}
use Rattle.hhbc_repo.proofs.ClearTogether.{IsClear, none_clear, both_clear, each_clear, line_clear, spaced_clear, tight_clear}
use Rattle.hhbc_repo.proofs.PartsThatFit.{body_facts}
use Rattle.hhbc_repo.proofs.PiecesSpelled.{pieces_both, pieces_ended}
use Rattle.hhbc_repo.proofs.TypesClear.{type_clear}

-- ---- what is spelled

-- locals with commas between them
locals_spelled : (l : Name) (more : List Name) → Separated 44 ALocal (Local l ∷ tokens_in (flat_map more_local more)) (l ∷ more)
locals_spelled l [] = refl
locals_spelled l (m ∷ more) = (Local l ∷ [], Local m ∷ tokens_in (flat_map more_local more), refl, locals_spelled m more, refl)

-- the same, and a mark
locals_ended : (first : Spaced) (l : Name) → first.token ≡ Local l → (more : List Name) (mark : Spaced)
    → Ended (Separated 44 ALocal) (mark.token ∷ []) (tokens_in (first ∷ (flat_map more_local more ++ mark ∷ []))) (l ∷ more)
locals_ended first l e more mark =
    pieces_ended (Separated 44 ALocal) (first ∷ flat_map more_local more) (mark ∷ []) (l ∷ more)
    (subst (λ (t : Token). Separated 44 ALocal (t ∷ tokens_in (flat_map more_local more)) (l ∷ more)) (sym e) (locals_spelled l more))

params_spelled : (xs : List Name) → Params (tokens_in (params_pieces xs)) xs
params_spelled [] = refl
params_spelled (l ∷ more) = record { rest = _; word = locals_ended (tight (Local l)) l refl more (tight (Mark 41)); tokens = refl }

declared_spelled : (depth : ℕ) (xs : List Name) → Declared (tokens_in (locals_pieces depth xs)) xs
declared_spelled depth [] = refl
declared_spelled depth (l ∷ more) = record { rest = _; word = locals_ended (spaced (Local l)) l refl more (tight (Mark 59)); tokens = refl }

iters_spelled : (depth n : ℕ) → nat_le n 65535 ≡ true → Iterators (tokens_in (iters_pieces depth n)) n
iters_spelled depth zero h = inr (refl, refl)
iters_spelled depth (suc n) h =
    inl (record { rest = Integer (pos (suc n)) ∷ Mark 59 ∷ []; word = record { first = Integer (pos (suc n)) ∷ []; word = (refl, leb-true (suc n) 65535 h); tokens = refl }; tokens = refl })

pub stated_spelled : (word : Name) (o : Option TypeParts) → where_there type_fits o ≡ true → Perhaps (Behind (Directive word ∷ []) AType) (tokens_in (stated_pieces word o)) o
stated_spelled word None h = refl
stated_spelled word (Some t) h = record { rest = tokens_in (type_pieces t); word = a_type t h; tokens = refl }

-- the pieces of a body behind its word and its name, one list after the other
abbrev close_pieces : ℕ → BodyParts → List Spaced
close_pieces depth b = item_pieces (suc depth) b.items ++ line depth (Mark 125) ∷ []

abbrev within_pieces : ℕ → BodyParts → List Spaced
within_pieces depth b = locals_pieces (suc depth) b.locals ++ (iters_pieces (suc depth) b.iters ++ close_pieces depth b)

abbrev behind_name : ℕ → BodyParts → List Spaced
behind_name depth b = params_pieces b.params ++ (stated_pieces (codes "returns") b.stated ++ (spaced (Mark 123) ∷ within_pieces depth b))

pieces_in_order : (depth : ℕ) (word : Name) (b : BodyParts) → body_pieces depth word b ≡ line depth (Directive word) ∷ spaced (Word b.name) ∷ behind_name depth b
pieces_in_order depth word b =
    let params = params_pieces b.params in
    let stated = stated_pieces (codes "returns") b.stated in
    let locals = locals_pieces (suc depth) b.locals in
    let iters = iters_pieces (suc depth) b.iters in
    let its = item_pieces (suc depth) b.items in
    let last : List Spaced = line depth (Mark 125) ∷ [] in
    let brace : List Spaced = spaced (Mark 123) ∷ [] in
    ap (λ ss. line depth (Directive word) ∷ spaced (Word b.name) ∷ ss)
    (append_assoc params (stated ++ brace) ((locals ++ (iters ++ its)) ++ last)
    ∙ ap (λ ss. params ++ ss)
    (append_assoc stated brace ((locals ++ (iters ++ its)) ++ last)
    ∙ ap (λ ss. stated ++ (spaced (Mark 123) ∷ ss)) (append_assoc locals (iters ++ its) last ∙ ap (λ ss. locals ++ ss) (append_assoc iters its last))))

-- a name and what stands behind it
named_spelled : (depth : ℕ) (b : BodyParts) → body_fits b ≡ true → ABody (Word b.name ∷ tokens_in (behind_name depth b)) b
named_spelled depth b h =
    let f = body_facts b h in
    record {
      first = Word b.name ∷ [];
      second = tokens_in (behind_name depth b);
      left = refl;
      right = pieces_both _ _ (params_pieces b.params) (stated_pieces (codes "returns") b.stated ++ (spaced (Mark 123) ∷ within_pieces depth b)) _ (params_spelled b.params)
          (pieces_both _ _ (stated_pieces (codes "returns") b.stated) (spaced (Mark 123) ∷ within_pieces depth b) _ (stated_spelled (codes "returns") b.stated f.stated)
          (record {
            rest = tokens_in (within_pieces depth b);
            word = pieces_both _ _ (locals_pieces (suc depth) b.locals) (iters_pieces (suc depth) b.iters ++ close_pieces depth b) _ (declared_spelled (suc depth) b.locals)
                (pieces_both _ _ (iters_pieces (suc depth) b.iters) (close_pieces depth b) _ (iters_spelled (suc depth) b.iters f.few)
                (pieces_ended _ (item_pieces (suc depth) b.items) (line depth (Mark 125) ∷ []) b.items (items_spelled (suc depth) b.items f.closed f.items)));
            tokens = refl;
          }));
      tokens = refl;
    }

-- a word and a body behind it
pub body_spelled : (depth : ℕ) (word : Name) (b : BodyParts) → body_fits b ≡ true → Behind (Directive word ∷ []) ABody (tokens_in (body_pieces depth word b)) b
body_spelled depth word b h = record {
  rest = Word b.name ∷ tokens_in (behind_name depth b);
  word = named_spelled depth b h;
  tokens = ap tokens_in (pieces_in_order depth word b);
}

-- ---- what is told apart

more_local_clear : (l : Name) → is_word l ≡ true → IsClear (more_local l)
more_local_clear l h = tight_clear (Mark 44) _ refl refl refl (spaced_clear (Local l) [] h none_clear)

-- further locals, and a mark
more_locals_clear : (more : List Name) → list_all is_word more ≡ true → (mark : List Spaced) → IsClear mark → IsClear (flat_map more_local more ++ mark)
more_locals_clear more h mark c = both_clear (flat_map more_local more) mark (each_clear more_local is_word more_local_clear more h) c

params_clear : (xs : List Name) → list_all is_word xs ≡ true → IsClear (params_pieces xs)
params_clear [] h = tight_clear (Mark 40) _ refl refl refl (tight_clear (Mark 41) [] refl refl refl none_clear)
params_clear (l ∷ more) h =
    let x = and_parts (is_word l) (list_all is_word more) h in
    tight_clear (Mark 40) _ refl refl refl (tight_clear (Local l) _ x.0 refl refl (more_locals_clear more x.1 (tight (Mark 41) ∷ []) (tight_clear (Mark 41) [] refl refl refl none_clear)))

locals_clear : (depth : ℕ) (xs : List Name) → list_all is_word xs ≡ true → IsClear (locals_pieces depth xs)
locals_clear depth [] h = none_clear
locals_clear depth (l ∷ more) h =
    let x = and_parts (is_word l) (list_all is_word more) h in
    line_clear depth (Directive (codes "declvars")) _ refl
    (spaced_clear (Local l) _ x.0 (more_locals_clear more x.1 (tight (Mark 59) ∷ []) (tight_clear (Mark 59) [] refl refl refl none_clear)))

few_in_range : (n : ℕ) → nat_le n 65535 ≡ true → is_int64 (pos n) ≡ true
few_in_range n h = let k = leb-true n 65535 h in le-leb (suc n) (2 ^ 63) (omega (arith, k))

iters_clear : (depth n : ℕ) → nat_le n 65535 ≡ true → IsClear (iters_pieces depth n)
iters_clear depth zero h = none_clear
iters_clear depth (suc n) h =
    line_clear depth (Directive (codes "numiters")) _ refl (spaced_clear (Integer (pos (suc n))) _ (few_in_range (suc n) h) (tight_clear (Mark 59) [] refl refl refl none_clear))

-- a directive, and a type where one is stated
pub stated_clear : (word : Name) → is_proper (Directive word) ≡ true → (o : Option TypeParts) → where_there type_fits o ≡ true → IsClear (stated_pieces word o)
stated_clear word p None h = none_clear
stated_clear word p (Some t) h = spaced_clear (Directive word) (type_pieces t) p (record { behind = type_clear t h })

items_clear : (depth : ℕ) (is : List ItemParts) → list_all item_fits is ≡ true → IsClear (item_pieces depth is)
items_clear depth [] h = none_clear
items_clear depth (items.Label l ∷ more) h =
    let x = and_parts (is_label l) (list_all item_fits more) h in
    line_clear depth (Word l) _ (and_parts (is_word l) (not (is_reserved l)) x.0).0 (tight_clear (Mark 58) _ refl refl refl (items_clear depth more x.1))
items_clear depth (items.Position p ∷ more) h =
    let x = and_parts (position_fits p) (list_all item_fits more) h in
    both_clear (position_pieces depth p) (item_pieces depth more) (record { behind = position_clear depth p x.0 }) (items_clear depth more x.1)
items_clear depth (items.Try ∷ more) h =
    line_clear depth (Directive (codes "try")) _ refl (spaced_clear (Mark 123) _ refl (items_clear (suc depth) more h))
items_clear depth (items.Catch ∷ more) h =
    line_clear (outer depth) (Mark 125) _ refl (spaced_clear (Directive (codes "catch")) _ refl (spaced_clear (Mark 123) _ refl (items_clear depth more h)))
items_clear depth (items.End ∷ more) h = line_clear (outer depth) (Mark 125) _ refl (items_clear (outer depth) more h)

pub body_clear : (depth : ℕ) (word : Name) → is_proper (Directive word) ≡ true → (b : BodyParts) → body_fits b ≡ true → IsClear (body_pieces depth word b)
body_clear depth word p b h =
    let f = body_facts b h in
    subst (λ (ss : List Spaced). IsClear ss) (sym (pieces_in_order depth word b))
    (line_clear depth (Directive word) _ p
    (spaced_clear (Word b.name) _ f.name
    (both_clear (params_pieces b.params) (stated_pieces (codes "returns") b.stated ++ (spaced (Mark 123) ∷ within_pieces depth b)) (params_clear b.params f.params)
    (both_clear (stated_pieces (codes "returns") b.stated) (spaced (Mark 123) ∷ within_pieces depth b) (stated_clear (codes "returns") refl b.stated f.stated)
    (spaced_clear (Mark 123) (within_pieces depth b) refl
    (both_clear (locals_pieces (suc depth) b.locals) (iters_pieces (suc depth) b.iters ++ close_pieces depth b) (locals_clear (suc depth) b.locals f.locals)
    (both_clear (iters_pieces (suc depth) b.iters) (close_pieces depth b) (iters_clear (suc depth) b.iters f.few)
    (both_clear (item_pieces (suc depth) b.items) (line depth (Mark 125) ∷ []) (items_clear (suc depth) b.items f.items) (line_clear depth (Mark 125) [] refl none_clear)))))))))
