-- What a read from the middle of a list of bytes gives and leaves.
use Rattle.std.proofs.Common.{◌≡◌, ℕ, ◌+◌, ◌<◌, List, [], ◌++◌, length, take, drop, min, sym, ap, ◌∙◌, arith}
use Rattle.std.proofs.lemmas.List.{take-append-drop, drop-drop, length-drop}
use Rattle.std.proofs.Math.ListN.{drop_of_length-le}

-- the bytes given, and then the bytes after them
front-then-rest : (at n : ℕ) (bytes buf : List ℕ) → take n buf ≡ take n (drop at bytes) → drop at bytes ≡ take n buf ++ drop (at + n) bytes
front-then-rest at n bytes buf copied =
    sym (take-append-drop n (drop at bytes)) ∙ ap (λ xs. xs ++ drop n (drop at bytes)) (sym copied) ∙ ap (λ xs. take n buf ++ xs) (drop-drop n at bytes)

-- a copy of nothing into some room is made only at the end
end_at_none : (at n room : ℕ) (bytes : List ℕ) → n ≡ min (length (drop at bytes)) room → n ≡ 0 → 0 < room → drop (at + n) bytes ≡ []
end_at_none at n room bytes count none some =
    drop_of_length-le bytes (omega (arith, length-drop at bytes))

-- what a copy of so many bytes gives, and what is left after it
pub copy_consumes : (at n : ℕ) (bytes seen old new left : List ℕ) → left ≡ drop at bytes → seen ≡ bytes → n ≡ min (length (drop at seen)) (length old)
    → take n new ≡ take n (drop at seen) → length new ≡ length old
    → (left ≡ take n new ++ drop (at + n) bytes) × (n ≡ 0 → 0 < length new → drop (at + n) bytes ≡ [])
copy_consumes at n bytes seen old new left is same count copied long =
    let copied_here = copied ∙ ap (λ xs. take n (drop at xs)) same in
    let counted_here = count ∙ ap (λ xs. min (length (drop at xs)) (length old)) same in
    (is ∙ front-then-rest at n bytes new copied_here, λ none some. end_at_none at n (length old) bytes counted_here none (omega arith))
