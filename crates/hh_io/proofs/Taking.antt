-- What several writes take, one after the other.
use Rattle.std.proofs.Common.{◌≡◌, ℕ, ◌+◌, ◌-◌, ◌≤◌, List, ◌++◌, length, take, drop, Option, Some, None, refl, ap, ◌∙◌, append_assoc, length-drop, length-append, arith}
use Rattle.std.proofs.lemmas.List.{take_rest}
use Rattle.std.proofs.Math.Seq.{take-add}
use Rattle.hh_io.specs.Sinks.{Takes, TellsOn}

pub Takes-trans : (a b c : Option (List ℕ)) (xs ys : List ℕ) → Takes a b xs → Takes b c ys → Takes a c (xs ++ ys)
Takes-trans None None None xs ys p q = tt
Takes-trans None None (Some c) xs ys p q = absurd q
Takes-trans None (Some b) c xs ys p q = absurd p
Takes-trans (Some a) b None xs ys p q = tt
Takes-trans (Some a) None (Some c) xs ys p q = absurd q
Takes-trans (Some a) (Some b) (Some c) xs ys p q = q ∙ ap (λ z. z ++ ys) p ∙ append_assoc a xs ys

-- a sink that told its bytes after two writes is past its room, or tells them still
pub TellsOn-trans : (a b c : Option (List ℕ)) (room here n m : ℕ) (xs ys : List ℕ) → here ≡ room → length xs ≡ n → Takes a b xs → Takes b c ys → TellsOn a b room n → TellsOn b c here m → TellsOn a c room (n + m)
TellsOn-trans None b c room here n m xs ys same long p q r s = tt
TellsOn-trans (Some a) b (Some c) room here n m xs ys same long p q r s = tt
TellsOn-trans (Some a) None None room here n m xs ys same long p q r s = omega arith
TellsOn-trans (Some a) (Some b) None room here n m xs ys same long p q r s = omega (arith, ap length p, length-append a xs)

-- what was written, and what the next write takes of the rest
pub take-seam : (at n : ℕ) (bytes : List ℕ) → take at bytes ++ take n (take (length bytes - at) (drop at bytes)) ≡ take (at + n) bytes
take-seam at n bytes = rw (take-add at n bytes, take_rest bytes at) refl

pub rest-within : (at n : ℕ) (bytes : List ℕ) → at ≤ length bytes → n ≤ length (take (length bytes - at) (drop at bytes)) → at + n ≤ length bytes
rest-within at n bytes within part =
    let same = ap length (take_rest bytes at) in omega (arith, same, length-drop at bytes)
