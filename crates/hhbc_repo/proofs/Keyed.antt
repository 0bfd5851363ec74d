-- Keys as lists of bytes.
use Rattle.std.proofs.Common.{◌≡◌, ℕ, suc, List, [], ◌∷◌, ◌++◌, length, refl, ap, position, arith, nat_eq}
use Rattle.std.specs.declared.vec.Vec.{Vec}
use Rattle.std.specs.List.{list_any}
use Rattle.std.specs.Str.{bytes_eq}
use Rattle.hhbc_repo.specs.LinkFaults.{is_name, place_in, names}
use Rattle.hhbc_repo.specs.Names.{bytes_of}

nat_eq-sym : (x y : ℕ) → nat_eq x y ≡ nat_eq y x
nat_eq-sym x y = grind arith

pub is_name-bytes : (q k : List ℕ) → bytes_eq q k ≡ is_name q k
is_name-bytes [] [] = refl
is_name-bytes [] (k ∷ ks) = refl
is_name-bytes (q ∷ qs) [] = refl
is_name-bytes (q ∷ qs) (k ∷ ks) = grind (arith, is_name-bytes qs ks, nat_eq-sym q k)

module _ {A : Type 0} (q : List ℕ) where
  pub place-bytes : (vs : List (Vec ℕ A)) → position (λ k. bytes_eq q k.items) vs ≡ place_in (bytes_of vs) q
  place-bytes [] = refl
  place-bytes (v ∷ vs) = grind (arith, place-bytes vs, is_name-bytes q v.items)

  pub names-bytes : (vs : List (Vec ℕ A)) → list_any (λ k. bytes_eq q k.items) vs ≡ names (bytes_of vs) q
  names-bytes [] = refl
  names-bytes (v ∷ vs) = grind (arith, names-bytes vs, is_name-bytes q v.items)

pub bytes_of-append : {A : Type 0} (vs : List (Vec ℕ A)) (v : Vec ℕ A) → bytes_of (vs ++ v ∷ []) ≡ bytes_of vs ++ v.items ∷ []
bytes_of-append [] v = refl
bytes_of-append (u ∷ vs) v = ap (λ l. u.items ∷ l) (bytes_of-append vs v)

pub bytes_count : {A : Type 0} (vs : List (Vec ℕ A)) → length (bytes_of vs) ≡ length vs
bytes_count [] = refl
bytes_count (v ∷ vs) = ap suc (bytes_count vs)
