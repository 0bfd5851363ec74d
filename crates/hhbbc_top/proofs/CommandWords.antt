-- Numbers among the words of a command.
use Rattle.std.proofs.Common.{◌≡◌, ◌<◌, ◌+◌, ◌*◌, ◌-◌, ℕ, arith, refl, false, nat_le, List, drop, get_or, length, Option, Some, None}
use Rattle.std.specs.Prelude.{if◌then◌else◌}
use Rattle.std.proofs.lemmas.List.{at_drop_more}
use Rattle.std.proofs.lemmas.Bool.Decides.{nat_tests}
use Rattle.hhas_lex.specs.Bytes.{number_from}
use Rattle.hhas_lex.proofs.Numbers.{number_from-grows}
use Rattle.hhbbc_top.specs.Words.{max_steps}

-- a number that one more digit takes past the bound stays past it
pub number-past : (n i : ℕ) (all : List ℕ) → i < length all → number_from n (drop i all) ≡ number_from 0 all → 1000000000 < 10 * n + (get_or all i 0 - 48)
    → ◌≡◌ {A = Option ℕ} None (if nat_le (number_from 0 all) max_steps then Some (number_from 0 all) else None)
number-past n i all within told past =
    let next = 10 * n + (get_or all i 0 - 48) in
    let e : number_from n (drop i all) ≡ number_from next (drop (i + 1) all) = at_drop_more (number_from n) all i 0 within in
    let g = number_from-grows next (drop (i + 1) all) in
    let big : 1000000000 < number_from 0 all = omega (arith, past, g, e, told) in
    let no : nat_le (number_from 0 all) max_steps ≡ false = grind (arith, nat_tests) in
    rw no refl
