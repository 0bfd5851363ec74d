use Rattle.std.proofs.Common.{◌≡◌, refl, sym, subst, codes, rules, Err}
use Rattle.hhbc_repo.specs.BodySyntax.{ABody}
use Rattle.hhas_read.specs.Directives.{no_directive}
use Rattle.hhas_read.specs.Reading.{Reads, any}
use Rattle.hhas_read.proofs.ItemLaws.{items_law}
use Rattle.hhas_read.proofs.BodyLaws.{counted_law, counted_leads, inner_law, items_lead, params_on_law, stated_and_inner_law}
use Rattle.hhas_read.proofs.BodySteps.{at_items, at_iters, at_locals, at_name, at_params, at_stated}
use Rattle.hhas_read.proofs.Onward.{last_fails, last_taken, part_fails}
use Rattle.hhas_read.proofs.reader.Reader.body.Goals as goal

pub returns-in_err-name : goal.returns-in_err-name
returns-in_err-name c =
    let old = c.args.self.now in
    let new = c.word.new.self in let e = c.in_err-name.field-0.0 in let is : c.from_residual.result ≡ Err e = search rules in
    subst (λ r. Reads any ABody old r new) (sym is) (part_fails any (λ b v x n o. refl) params_on_law.some new e (at_name old) c.in_err-name.ensures)

pub returns-in_err-params : goal.returns-in_err-params
returns-in_err-params c =
    let old = c.args.self.now in
    let named = at_params old c.word.new.self c.in_ok-name.name c.in_ok-name.ensures in
    let new = c.params.new.self in let e = c.in_err-params.field-0.0 in let is : c.from_residual-in_err-params.result ≡ Err e = search rules in
    subst (λ r. Reads any ABody old r new) (sym is) (part_fails any (λ b v x n o. refl) stated_and_inner_law.some new e named c.in_err-params.ensures)

pub returns-in_err-stated : goal.returns-in_err-stated
returns-in_err-stated c =
    let old = c.args.self.now in
    let named = at_params old c.word.new.self c.in_ok-name.name c.in_ok-name.ensures in
    let to_stated = at_stated c.params.new.self c.in_ok-params.params named c.in_ok-params.ensures in
    let new = c.stated.new.self in let e = c.in_err-stated.field-0.0 in let is : c.from_residual-in_err-stated.result ≡ Err e = search rules in
    subst (λ r. Reads any ABody old r new) (sym is) (part_fails any (λ b v x n o. refl) inner_law.some new e to_stated c.in_err-stated.ensures)

pub returns-in_err-locals : goal.returns-in_err-locals
returns-in_err-locals c =
    let old = c.args.self.now in
    let named = at_params old c.word.new.self c.in_ok-name.name c.in_ok-name.ensures in
    let to_stated = at_stated c.params.new.self c.in_ok-params.params named c.in_ok-params.ensures in
    let to_locals = at_locals c.stated.new.self c.in_ok-stated.stated to_stated c.in_ok-stated.ensures in
    let new = c.declared_locals.new.self in let e = c.in_err-locals.field-0.0 in let is : c.from_residual-in_err-locals.result ≡ Err e = search rules in
    subst (λ r. Reads any ABody old r new) (sym is) (part_fails (no_directive (codes "declvars")) counted_leads counted_law.some new e to_locals c.in_err-locals.ensures)

pub returns-in_err-iters : goal.returns-in_err-iters
returns-in_err-iters c =
    let old = c.args.self.now in
    let named = at_params old c.word.new.self c.in_ok-name.name c.in_ok-name.ensures in
    let to_stated = at_stated c.params.new.self c.in_ok-params.params named c.in_ok-params.ensures in
    let to_locals = at_locals c.stated.new.self c.in_ok-stated.stated to_stated c.in_ok-stated.ensures in
    let to_iters = at_iters c.declared_locals.new.self c.in_ok-locals.locals to_locals c.in_ok-locals.ensures in
    let new = c.iterator_count.new.self in let e = c.in_err-iters.field-0.0 in let is : c.from_residual-in_err-iters.result ≡ Err e = search rules in
    subst (λ r. Reads any ABody old r new) (sym is) (part_fails (no_directive (codes "numiters")) items_lead items_law.some new e to_iters c.in_err-iters.ensures)

pub returns-in_err-items : goal.returns-in_err-items
returns-in_err-items c =
    let old = c.args.self.now in
    let named = at_params old c.word.new.self c.in_ok-name.name c.in_ok-name.ensures in
    let to_stated = at_stated c.params.new.self c.in_ok-params.params named c.in_ok-params.ensures in
    let to_locals = at_locals c.stated.new.self c.in_ok-stated.stated to_stated c.in_ok-stated.ensures in
    let to_iters = at_iters c.declared_locals.new.self c.in_ok-locals.locals to_locals c.in_ok-locals.ensures in
    let to_items = at_items c.iterator_count.new.self c.in_ok-iters.iters to_iters c.in_ok-iters.ensures in
    let new = c.items_to_end.new.self in let e = c.in_err-items.field-0.0 in let is : c.from_residual-in_err-items.result ≡ Err e = search rules in
    subst (λ r. Reads any ABody old r new) (sym is) (last_fails new e to_items c.in_err-items.ensures)

pub returns : goal.returns
returns c =
    let old = c.args.self.now in
    let named = at_params old c.word.new.self c.in_ok-name.name c.in_ok-name.ensures in
    let to_stated = at_stated c.params.new.self c.in_ok-params.params named c.in_ok-params.ensures in
    let to_locals = at_locals c.stated.new.self c.in_ok-stated.stated to_stated c.in_ok-stated.ensures in
    let to_iters = at_iters c.declared_locals.new.self c.in_ok-locals.locals to_locals c.in_ok-locals.ensures in
    let to_items = at_items c.iterator_count.new.self c.in_ok-iters.iters to_iters c.in_ok-iters.ensures in
    last_taken c.items_to_end.new.self c.in_ok-items.items to_items c.in_ok-items.ensures
