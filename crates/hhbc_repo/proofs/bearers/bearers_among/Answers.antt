use Rattle.std.proofs.Common.{◌≡◌, ◌<◌, ◌+◌, ◌^◌, ◌++◌, ℕ, List, ◌∷◌, [], Some, drop, take, length, slice_get, sym, ap, ◌∙◌, subst, arith}
use Rattle.std.proofs.lemmas.List.{append-nil, take_more}
use Rattle.std.proofs.lemmas.Option.{slice_get-get_or}
use Rattle.hhbc_repo.specs.declared.members.Row.{Row}
use Rattle.hhbc_repo.specs.Bearers.{borne}
use Rattle.hhbc_repo.specs.LookUps.{total}
use Rattle.hhbc_repo.specs.Members.{names_of}
use Rattle.hhbc_repo.specs.Places.{bearers, together}
use Rattle.hhbc_repo.proofs.Borne.{none_left, one_left, row_first, row_more}
use Rattle.hhbc_repo.proofs.Numbered.{names_of-append, row-bound, total_append}
use Rattle.hhbc_repo.proofs.bearers.bearers_among.Goals as goal

pub with_names-requires : goal.with_names-requires
with_names-requires c =
    let rows = c.rows-row-items.result.now in
    let row = c.row-item.result in
    let i = c.loop-row.row-index in
    let k = c.rows-row-items.ensures.counted in
    let there = slice_get-get_or rows i row c.loop-row-test.true ∙ ap (λ (r : Row). Some r) (sym c.row-item.is) in
    let b = row-bound c.args.members.now.first rows i row k.firsts there in
    let l = k.last in
    let f = k.fits in
    omega (arith, b, l, f)

pub loop-row-preserved : goal.loop-row-preserved
loop-row-preserved c =
    let first = c.args.members.now.first in
    let rows = c.rows-row-items.result.now in
    let row = c.row-item.result in
    let i = c.loop-row.row-index in
    let k = c.rows-row-items.ensures.counted in
    let there = slice_get-get_or rows i row c.loop-row-test.true ∙ ap (λ (r : Row). Some r) (sym c.row-item.is) in
    let n = first + total (names_of (take i rows)) in
    let begins : row.first ≡ n = row_first first rows i row k.firsts there in
    let longer = ap names_of (take_more rows i row c.loop-row-test.true ∙ ap (λ (r : Row). take i rows ++ r ∷ []) (sym c.row-item.is)) ∙ names_of-append (take i rows) row in
    let sum = ap total longer ∙ total_append (names_of (take i rows)) row.names in
    let next : n + length row.names ≡ first + total (names_of (take (i + 1) rows)) = omega (arith, sum) in
    λ name. ap (λ (m : ℕ). borne c.in_ok-table.table name ++ bearers m (together (names_of (drop (i + 1) rows))) name) (sym next)
    ∙ row_more (borne c.loop-row.table) (borne c.in_ok-table.table) (λ q. bearers first (together (names_of rows)) q) n row (drop i rows) (drop (i + 1) rows)
    (one_left rows i row c.loop-row-test.true c.row-item.is)
    (λ q. c.in_ok-table.ensures q ∙ ap (λ (m : ℕ). borne c.loop-row.table q ++ bearers m row.names q) begins) c.loop-row.invariant name

pub returns : goal.returns
returns c name =
    let rows = c.rows-row-items.result.now in
    sym (append-nil (borne c.loop-row.table name))
    ∙ ap (λ (l : List Row). borne c.loop-row.table name ++ bearers (c.args.members.now.first + total (names_of (take c.loop-row.row-index rows))) (together (names_of l)) name)
    (sym (none_left c.loop-row.row-index rows c.loop-row-test.false))
    ∙ c.loop-row.invariant name
    ∙ ap (λ (names : List (List (List ℕ))). bearers c.args.members.now.first (together names) name) c.rows-row-items.ensures.rows
