use Rattle.std.proofs.Common.{◌∙◌, ap, sym}
use Rattle.std.specs.Map.{values_of}
use Rattle.native_table.proofs.Found.{absent-key, keyed-insert, values-insert}
use Rattle.native_table.proofs.table.NativeTable.add.Goals as goal

pub invariant_of-self : goal.invariant_of-self
invariant_of-self g c =
    let table = c.args.self.now in
    let named_so = c.in-Ok.ensures.items ∙ c.bytes-2.ensures in
    let absent = absent-key (λ n. n.name) table.natives.entries table.keyed c.in-Ok.key _ c.find.result (named_so ∙ sym c.bytes.ensures) c.find.ensures.native (sym c.is_some.ensures ∙ c.if-is_some.false) in
    record { keyed = keyed-insert (λ n. n.name) _ table.natives c.in-Ok.key c.args.native absent c.insert.result c.insert.new.self.entries c.insert.ensures.entries c.insert.ensures.err named_so table.keyed }

pub returns-in-Ok-insert-clause-added : goal.returns-in-Ok-insert-clause-added
returns-in-Ok-insert-clause-added g c =
    let table = c.args.self.now in
    let named_so = c.in-Ok.ensures.items ∙ c.bytes-2.ensures in
    let absent = absent-key (λ n. n.name) table.natives.entries table.keyed c.in-Ok.key _ c.find.result (named_so ∙ sym c.bytes.ensures) c.find.ensures.native (sym c.is_some.ensures ∙ c.if-is_some.false) in
    ap values_of c.in-Ok-insert.ensures.entries ∙ values-insert (λ n. n.name) _ table.natives c.in-Ok.key c.args.native absent
