use Rattle.std.proofs.Common.{◌≡◌, ◌<◌, ◌+◌, ◌^◌, ◌++◌, ℕ, List, ◌∷◌, Global, drop, length, sym, ap, ◌∙◌, arith}
use Rattle.std.proofs.lemmas.List.{append-nil}
use Rattle.std.specs.declared.vec.Vec.{Vec}
use Rattle.hhbc_repo.specs.Bearers.{borne}
use Rattle.hhbc_repo.specs.LinkFaults.{is_name}
use Rattle.hhbc_repo.specs.Names.{bytes_of}
use Rattle.hhbc_repo.specs.Places.{bearers}
use Rattle.hhbc_repo.proofs.Borne.{none_left, one_left, one_more, perhaps}
use Rattle.hhbc_repo.proofs.Keyed.{bytes_count}
use Rattle.hhbc_repo.proofs.bearers.Bearers.with_names.Goals as goal

pub overflow_add-number : goal.overflow_add-number
overflow_add-number c =
    let n = c.loop-key.invariant.0 in
    let e = bytes_count c.keys-key-items.result.now in
    let l = ap (λ (xs : List (List ℕ)). length xs) c.keys-key-items.ensures in
    let t = c.loop-key-test.true in
    let r = c.requires in
    omega (arith, n, e, l, t, r)

pub loop-key-preserved : goal.loop-key-preserved
loop-key-preserved c =
    let keys = c.keys-key-items.result.now in
    let i = c.loop-key.key-index in
    let key = c.key-item.result in
    let n = c.loop-key.invariant.0 in
    let left = ap bytes_of (one_left keys i key c.loop-key-test.true c.key-item.is) in (
      omega (arith, n),
      one_more (borne c.loop-key.table) (borne c.in_ok-table.table) (borne c.args.self) (λ q. bearers c.args.first (bytes_of keys) q) c.loop-key.number key.items
          (bytes_of (drop i keys)) (bytes_of (drop (i + 1) keys)) left
          (λ q. c.in_ok-table.ensures q ∙ ap (λ (m : List ℕ). borne c.loop-key.table q ++ perhaps (is_name q m) c.loop-key.number) c.as_slice.ensures.value)
          c.loop-key.invariant.1,
    )

pub returns : goal.returns
returns c other =
    let keys = c.keys-key-items.result.now in
    sym (append-nil (borne c.loop-key.table other))
    ∙ ap (λ (l : List (Vec ℕ Global)). borne c.loop-key.table other ++ bearers c.loop-key.number (bytes_of l) other) (sym (none_left c.loop-key.key-index keys c.loop-key-test.false))
    ∙ c.loop-key.invariant.1 other
    ∙ ap (λ (names : List (List ℕ)). borne c.args.self other ++ bearers c.args.first names other) c.keys-key-items.ensures
