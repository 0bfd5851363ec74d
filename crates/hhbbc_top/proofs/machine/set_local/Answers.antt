use Rattle.std.proofs.Common.{suc, add-one, ◌∙◌, ap, sym, reverse, map, List}
use Rattle.hack_values.specs.declared.cell.Slot.{Slot}
use Rattle.hhbc_semantics.specs.Frames as frames
use Rattle.hhbc_semantics.specs.Run.{no_world}
use Rattle.hhbbc_top.specs.Running.{frame_of, slot_of}
use Rattle.hhbbc_top.proofs.Machines.{set-top, set-slot}
use Rattle.hhbbc_top.proofs.machine.set_local.Goals as goal

pub returns : goal.returns
returns c =
    let f = frame_of c.args.machine.now in
    let top = rw c.deref.ensures.value at (sym c.below_top.ensures ∙ c.in-Some.is) in
    let is = set-top (reverse c.args.machine.now.stack.items) c.in-Some.top no_world f c.args.local top in
    λ names. rw add-one (ap (λ (ls : List Slot). frames.Goes (record f { position = suc f.position; locals = ls }) no_world) (ap (map slot_of) c.store.ensures ∙ set-slot c.args.machine.now.locals.items c.args.local c.in-Some.top) ∙ is)
