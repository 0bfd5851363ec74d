use Rattle.std.proofs.Common.{◌≡◌, ◌++◌, [], ◌∷◌, None}
use Rattle.hack_values.specs.Keys.{place}
use Rattle.hack_values.proofs.KeyLaws.{distinct_push}
use Rattle.hack_values.proofs.Rows.{keys-entries, length-push, push-entries}
use Rattle.hack_values.proofs.cell.DictVal.push_entry.Goals as goal

pub invariant_of-self-2 : goal.invariant_of-self-2
invariant_of-self-2 c =
    let inside = c.self.inside in
    let keys : c.add_key.new.self ≡ inside.keys ++ c.args.key ∷ [] = c.in_ok-add_key.ensures.ok in
    let cells : c.push.new.self.items ≡ inside.vals.items ++ c.args.value ∷ [] = c.in-Ok.ensures.items in
    let absent : place c.args.key inside.keys ≡ None = rw (← keys-entries inside.keys inside.vals.items c.self.invariant.0, c.self.view_is) c.requires.absent in
    rw (keys, cells) (
      length-push inside.vals.items inside.keys c.args.value c.args.key c.self.invariant.0,
      distinct_push c.args.key inside.keys c.self.invariant.1 absent,
      rw (push-entries inside.keys inside.vals.items c.args.key c.args.value c.self.invariant.0, c.self.view_is) c.requires.known,
    )
