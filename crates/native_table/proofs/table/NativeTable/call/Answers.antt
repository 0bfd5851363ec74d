use Rattle.std.proofs.Common.{◌≡◌, ◌∙◌, ap, sym, subst, option_map, option_copied, IfSome, IfOk, Some, length}
use Rattle.hack_values.specs.Natives.{native_value}
use Rattle.native_table.specs.Answers.{answered, IsOfType}
use Rattle.native_table.specs.Rows.{NativeRow, native_named}
use Rattle.native_table.specs.Tables.{row_of, rows_of, natives_of}
use Rattle.native_table.proofs.Found.{found-name, some-each}
use Rattle.native_table.proofs.table.NativeTable.call.Goals as goal

pub returns-clause-value : goal.returns-clause-value
returns-clause-value g c =
    let native = c.in-Some.native.now in
    let name = found-name (λ n. n.name) c.args.name.now (natives_of c.args.self.now) native (sym c.find.ensures.native ∙ ap option_copied c.in-Some.is) in
    let row : native_named (rows_of c.args.self.now) c.args.name.now ≡ Some (row_of native) = sym c.find.ensures.row ∙ ap (λ r. option_map row_of (option_copied r)) c.in-Some.is in
    let count : length c.args.args.now ≡ native.arity = subst (λ o. IfSome o (λ (r : NativeRow). length c.args.args.now ≡ r.arity)) row c.requires.count in
    subst (λ n. IfOk c.call.result (λ answer. answer ≡ answered (native_value n c.args.args.now))) name
    (native.gives_value c.args.alloc c.args.args c.call.result (count, c.requires.objects) c.call.ensures.0)

pub returns-clause-in_type : goal.returns-clause-in_type
returns-clause-in_type g c =
    let native = c.in-Some.native.now in
    let name = found-name (λ n. n.name) c.args.name.now (natives_of c.args.self.now) native (sym c.find.ensures.native ∙ ap option_copied c.in-Some.is) in
    let row : native_named (rows_of c.args.self.now) c.args.name.now ≡ Some (row_of native) = sym c.find.ensures.row ∙ ap (λ r. option_map row_of (option_copied r)) c.in-Some.is in
    let count : length c.args.args.now ≡ native.arity = subst (λ o. IfSome o (λ (r : NativeRow). length c.args.args.now ≡ r.arity)) row c.requires.count in
    subst (λ o. IfSome o (λ (r : NativeRow). IfSome (native_value c.args.name.now c.args.args.now) (λ value. IsOfType value r.answers))) (sym row)
    (some-each (native_value c.args.name.now c.args.args.now)
    (λ value is. native.holds_values c.args.args.now value (count, c.requires.objects) (ap (λ n. native_value n c.args.args.now) name ∙ is)))
