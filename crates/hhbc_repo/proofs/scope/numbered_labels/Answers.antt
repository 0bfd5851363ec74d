use Rattle.std.proofs.Common.{◌≡◌, ◌∷◌, ◌+◌, suc, drop, sym, ap, ◌∙◌, subst, arith, refl, ℕ, List}
use Rattle.std.proofs.Math.Seq.{drop-cons}
use Rattle.hhbc_repo.specs.LabelTables.{Seen}
use Rattle.hhbc_repo.specs.FirstNumbers.{Numbers, put}
use Rattle.hhbc_repo.specs.LinkFaults.{Name}
use Rattle.hhbc_repo.specs.declared.parts.ItemParts.{ItemParts}
use Rattle.hhbc_repo.proofs.LabelsFound.{seen_label, seen_position, seen_try, seen_catch, seen_end}
use Rattle.hhbc_repo.proofs.scope.numbered_labels.Goals as goal
use Rattle.hhbc_repo.proofs.scope.numbered_labels.Goals.{in-Label+in_ok-labels-in-Label, in-Position, in-Try, in-Catch, in-End}

here_is : (t : Numbers) (here : ℕ) (item k : ItemParts) (rest all : List ItemParts) → item ≡ k → Seen t here (item ∷ rest) all → Seen t here (k ∷ rest) all
here_is t here item k rest all e s = subst (λ j. Seen t here (j ∷ rest) all) e s

moved : (t new : Numbers) (n here : ℕ) (rest all : List ItemParts) → new ≡ t → here ≡ n → Seen t n rest all → Seen new here rest all
moved t new n here rest all e i s = subst (λ k. Seen new k rest all) (sym i) (subst (λ k. Seen k n rest all) (sym e) s)

pub loop-item-preserved : goal.loop-item-preserved
loop-item-preserved c =
    let l = c.loop-item in
    let items = c.args.items.now in
    let at = l.item-index in
    let item = c.item-item.result in
    let rest = drop (at + 1) items in
    let one : suc at ≡ at + 1 = omega arith in
    let next : drop at items ≡ item ∷ rest =
    rw (sym one) (drop-cons items at item c.loop-item-test.true ∙ ap (λ (k : ItemParts). k ∷ drop (suc at) items) (sym c.item-item.is)) in
    let before : Seen l.labels l.here (item ∷ rest) items = subst (λ r. Seen l.labels l.here r items) next l.invariant in
    elim c.match-item.branch [
      | in-Label+in_ok-labels-in-Label w ↦
          moved c.match-item.labels c.match-item.labels l.here c.match-item.here rest items refl w.here-is
          (seen_label l.labels c.match-item.labels l.here w.in-Label.name rest items (here_is l.labels l.here item _ rest items w.in-Label.is before) (w.labels-is ∙ w.in_ok-labels-in-Label.ensures ∙ ap (λ (q : Name). put l.labels q l.here) w.bytes.ensures))
      | in-Position w ↦
          moved l.labels c.match-item.labels c.match-item.here c.match-item.here rest items w.labels-is refl
          (seen_position l.labels l.here c.match-item.here w.in-Position.field-0 rest items w.here-is (here_is l.labels l.here item _ rest items w.in-Position.is before))
      | in-Try w ↦ moved l.labels c.match-item.labels l.here c.match-item.here rest items w.labels-is w.here-is (seen_try l.labels l.here rest items (here_is l.labels l.here item _ rest items w.in-Try.is before))
      | in-Catch w ↦ moved l.labels c.match-item.labels l.here c.match-item.here rest items w.labels-is w.here-is (seen_catch l.labels l.here rest items (here_is l.labels l.here item _ rest items w.in-Catch.is before))
      | in-End w ↦ moved l.labels c.match-item.labels l.here c.match-item.here rest items w.labels-is w.here-is (seen_end l.labels l.here rest items (here_is l.labels l.here item _ rest items w.in-End.is before))
    ]
