use Rattle.std.proofs.Common.{◌≡◌, [], ◌∷◌, ◌∙◌, refl, sym, ap, subst, rules, Err, true, false}
use Rattle.hhas_read.specs.declared.open_bodies.OpenBody.TheVariants as bodies
use Rattle.hhas_read.specs.Reading.{Reads, any}
use Rattle.hhas_read.proofs.ItemSteps.{catch_stops, catch_taken, code_stops, end_stops, end_taken, known, label_stops, label_taken, list_stops, list_taken, no_item, position_stops, position_taken, try_stops, try_taken}
use Rattle.hhas_read.proofs.ItemTurns.{Inside, WholeList, outside}
use Rattle.hhas_read.proofs.Nesting.{Block, Closes}
use Rattle.hhas_read.proofs.Reserved.{named_reserved, unnamed_reserved}
use Rattle.hhas_read.proofs.reader.Reader.items_to_end.Goals as goal

pub items-init : goal.items-init
items-init c =
    let start = c.args.self.now in
    subst (λ o. Inside start start (Block false (Closes o)) c.new-items.result) (sym c.new-opened.ensures)
    (subst (λ xs. Inside start start (Block false (Closes [])) xs) (sym c.new-items.ensures) (outside start))

pub returns-in_err-position : goal.returns-in_err-position
returns-in_err-position c =
    let start = c.args.self.now in let old = c.items.self in let new = c.named_position.new.self in let e = c.in_err-position.field-0.0 in
    let is : c.from_residual.result ≡ Err e = search rules in
    subst (λ r. Reads any WholeList start r new) (sym is)
    (position_stops start old c.items.opened c.items.items c.items.needs_code new c.in-Word.name.now e c.items.invariant c.in-Word.ensures
    (named_reserved c.in-Word.name.now c.in-Some.op c.in-Some.ensures.only) c.in_err-position.ensures)

pub items-preserved-in-Some : goal.items-preserved-in-Some
items-preserved-in-Some c =
    position_taken c.args.self.now c.items.self c.items.opened c.items.items c.items.needs_code c.named_position.new.self c.push.new.self c.in-Word.name.now c.in_ok-position.position
    c.items.invariant c.in-Word.ensures (named_reserved c.in-Word.name.now c.in-Some.op c.in-Some.ensures.only) c.in_ok-position.ensures c.in_ok-push.ensures.ok

pub returns-in_err-position-2 : goal.returns-in_err-position-2
returns-in_err-position-2 c =
    let start = c.args.self.now in let old = c.items.self in let new = c.position.new.self in let e = c.in_err-position-2.field-0.0 in
    let is : c.from_residual-in_err-position-2.result ≡ Err e = search rules in
    subst (λ r. Reads any WholeList start r new) (sym is)
    (position_stops start old c.items.opened c.items.items c.items.needs_code new c.in-Word.name.now e c.items.invariant c.in-Word.ensures
    (unnamed_reserved c.in-Word.name.now c.in_default-op_named.ensures.only ∙ sym c.is_other_name.ensures ∙ c.if-is_other_name.true) c.in_err-position-2.ensures)

pub items-preserved-then-is_other_name : goal.items-preserved-then-is_other_name
items-preserved-then-is_other_name c =
    position_taken c.args.self.now c.items.self c.items.opened c.items.items c.items.needs_code c.position.new.self c.push-then-is_other_name.new.self c.in-Word.name.now c.in_ok-position-2.position
    c.items.invariant c.in-Word.ensures
    (unnamed_reserved c.in-Word.name.now c.in_default-op_named.ensures.only ∙ sym c.is_other_name.ensures ∙ c.if-is_other_name.true) c.in_ok-position-2.ensures c.in_ok-push-2.ensures.ok

pub returns-in_err-label : goal.returns-in_err-label
returns-in_err-label c =
    let start = c.args.self.now in let old = c.items.self in let new = c.label_to.new.self in let e = c.in_err-label.field-0.0 in
    let is : c.from_residual-in_err-label.result ≡ Err e = search rules in
    subst (λ r. Reads any WholeList start r new) (sym is)
    (label_stops start old c.items.opened c.items.items c.items.needs_code new c.in-Word.name.now e c.items.invariant c.in-Word.ensures
    (unnamed_reserved c.in-Word.name.now c.in_default-op_named.ensures.only ∙ sym c.is_other_name.ensures ∙ c.if-is_other_name.false) c.in_err-label.ensures)

pub items-preserved-in-Word : goal.items-preserved-in-Word
items-preserved-in-Word c =
    label_taken c.args.self.now c.items.self c.items.opened c.items.items c.items.needs_code c.label_to.new.self c.push-in-Word.new.self c.in-Word.name.now c.in_ok-label.label
    c.items.invariant c.in-Word.ensures
    (unnamed_reserved c.in-Word.name.now c.in_default-op_named.ensures.only ∙ sym c.is_other_name.ensures ∙ c.if-is_other_name.false) c.in_ok-label.ensures c.in_ok-push-3.ensures.ok

pub returns-in_err-opening : goal.returns-in_err-opening
returns-in_err-opening c =
    let start = c.args.self.now in let old = c.items.self in let new = c.opening.new.self in let e = c.in_err-opening.field-0.0 in
    let is : c.from_residual-in_err-opening.result ≡ Err e = search rules in
    subst (λ r. Reads any WholeList start r new) (sym is)
    (try_stops start old c.items.opened c.items.items c.items.needs_code new e c.items.invariant c.if-is_directive.ensures c.in_err-opening.ensures)

pub items-preserved-then-is_directive : goal.items-preserved-then-is_directive
items-preserved-then-is_directive c =
    try_taken c.args.self.now c.items.self c.items.opened c.items.items c.items.needs_code c.opening.new.self c.push-then-is_directive-2.new.self tt
    c.push-then-is_directive.new.self c.items.invariant c.if-is_directive.ensures c.in_ok-opening.ensures c.in_ok-push-4.ensures c.in_ok-push-5.ensures.ok

pub returns-then-needs_code : goal.returns-then-needs_code
returns-then-needs_code c =
    let start = c.args.self.now in let old = c.items.self in let opened = c.items.opened in
    code_stops start old opened c.items.items (known start old opened c.items.items c.items.needs_code true opened c.if-needs_code.true refl c.items.invariant)
    (no_item old c.peek.result c.peek.ensures c.in_default.not-Word c.if-is_directive.ensures)

pub returns-in_err-mark-in-None : goal.returns-in_err-mark-in-None
returns-in_err-mark-in-None c =
    let start = c.args.self.now in let old = c.items.self in let new = c.mark.new.self in let e = c.in_err-mark-in-None.field-0.0 in
    let is : c.from_residual-in_err-mark-in-None.result ≡ Err e = search rules in
    subst (λ r. Reads any WholeList start r new) (sym is)
    (list_stops start old new c.items.items (known start old [] c.items.items c.items.needs_code false c.items.opened c.if-needs_code.false c.in-None.ensures c.items.invariant)
    (no_item old c.peek.result c.peek.ensures c.in_default.not-Word c.if-is_directive.ensures) e c.in_err-mark-in-None.ensures)

pub returns-in-None : goal.returns-in-None
returns-in-None c =
    let start = c.args.self.now in let old = c.items.self in
    list_taken start old c.mark.new.self c.items.items (known start old [] c.items.items c.items.needs_code false c.items.opened c.if-needs_code.false c.in-None.ensures c.items.invariant)
    (no_item old c.peek.result c.peek.ensures c.in_default.not-Word c.if-is_directive.ensures) tt c.in_ok-mark-in-None.ensures

pub returns-in_err-catch_opening-in-Some-Try : goal.returns-in_err-catch_opening-in-Some-Try
returns-in_err-catch_opening-in-Some-Try c =
    let start = c.args.self.now in let old = c.items.self in let new = c.catch_opening.new.self in let around = c.pop.new.self in
    let e = (c.in_err-catch_opening-in-Some-Try).field-0.0 in let is : c.from_residual-in_err-catch_opening-in-Some-Try.result ≡ Err e = search rules in
    let popped : c.items.opened ≡ bodies.Try ∷ around = c.in-Some-Try.ensures ∙ ap (λ b. b ∷ around) c.in-Some-Try.field-0-is in
    subst (λ r. Reads any WholeList start r new) (sym is)
    (catch_stops start old around c.items.items new e
    (known start old (bodies.Try ∷ around) c.items.items c.items.needs_code false c.items.opened c.if-needs_code.false popped c.items.invariant)
    (no_item old c.peek.result c.peek.ensures c.in_default.not-Word c.if-is_directive.ensures) (c.in_err-catch_opening-in-Some-Try).ensures)

pub items-preserved-in-Some-Try : goal.items-preserved-in-Some-Try
items-preserved-in-Some-Try c =
    let start = c.args.self.now in let old = c.items.self in let around = c.pop.new.self in
    let popped : c.items.opened ≡ bodies.Try ∷ around = c.in-Some-Try.ensures ∙ ap (λ b. b ∷ around) c.in-Some-Try.field-0-is in
    catch_taken start old around c.items.items c.catch_opening.new.self c.push-in-Some-Try-2.new.self tt c.push-in-Some-Try.new.self
    (known start old (bodies.Try ∷ around) c.items.items c.items.needs_code false c.items.opened c.if-needs_code.false popped c.items.invariant)
    (no_item old c.peek.result c.peek.ensures c.in_default.not-Word c.if-is_directive.ensures) c.in_ok-catch_opening-in-Some-Try.ensures
    c.in_ok-push-in-Some-Try.ensures c.in_ok-push-in-Some-Try-2.ensures.ok

pub returns-in_err-mark-in-Some-Catch : goal.returns-in_err-mark-in-Some-Catch
returns-in_err-mark-in-Some-Catch c =
    let start = c.args.self.now in let old = c.items.self in let new = c.mark-in-Some-Catch.new.self in let around = c.pop.new.self in
    let e = c.in_err-mark-in-Some-Catch.field-0.0 in let is : c.from_residual-in_err-mark-in-Some-Catch.result ≡ Err e = search rules in
    let popped : c.items.opened ≡ bodies.Catch ∷ around = c.in-Some-Catch.ensures ∙ ap (λ b. b ∷ around) c.in-Some-Catch.field-0-is in
    subst (λ r. Reads any WholeList start r new) (sym is)
    (end_stops start old around c.items.items new e
    (known start old (bodies.Catch ∷ around) c.items.items c.items.needs_code false c.items.opened c.if-needs_code.false popped c.items.invariant)
    (no_item old c.peek.result c.peek.ensures c.in_default.not-Word c.if-is_directive.ensures) c.in_err-mark-in-Some-Catch.ensures)

pub items-preserved : goal.items-preserved
items-preserved c =
    let start = c.args.self.now in let old = c.items.self in let mid = c.mark-in-Some-Catch.new.self in let around = c.pop.new.self in let more = c.push-in-Some-Catch.new.self in
    let popped : c.items.opened ≡ bodies.Catch ∷ around = c.in-Some-Catch.ensures ∙ ap (λ b. b ∷ around) c.in-Some-Catch.field-0-is in
    known start mid around more false c.items.needs_code around (sym c.if-needs_code.false) refl
    (end_taken start old around c.items.items mid more tt
    (known start old (bodies.Catch ∷ around) c.items.items c.items.needs_code false c.items.opened c.if-needs_code.false popped c.items.invariant)
    (no_item old c.peek.result c.peek.ensures c.in_default.not-Word c.if-is_directive.ensures) c.in_ok-mark-in-Some-Catch.ensures c.in_ok-push-in-Some-Catch.ensures.ok)
