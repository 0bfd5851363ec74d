use Rattle.std.proofs.Common.{◌≡◌, [], List, length, arith, sym, ◌∙◌}
use Rattle.std.proofs.lemmas.List.{nil_from_length}
use Rattle.std.proofs.lemmas.Bool.Decides.{Decides-eqb}
use Rattle.hhbbc_top.proofs.Fitting.{ok_whole, single}
use Rattle.hhbbc_top.proofs.form.main_of.Goals as goal

pub returns-clause-read : goal.returns-clause-read
returns-clause-read c =
    let one = single c.functions.result.now c.body-item.result c.in-len1.len_at_least (omega (arith, c.in-len1.len_below)) c.body-item.is in
    let none = nil_from_length c.classes.result.now ((Decides-eqb (length c.classes.result.now) 0).0 (sym c.if-not-is_empty.ensures)) in
    ok_whole c.args.repo.now c.body-item.result c.main_in.result (sym c.functions.ensures ∙ one) (sym c.classes.ensures ∙ none) c.requires c.main_in.ensures.read
