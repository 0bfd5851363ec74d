-- Lists of names, and names found in them.
use Rattle.std.specs.Prelude.{ℕ, Bool, true, not, ◌&&◌, List, [], ◌∷◌, ◌++◌}
use Rattle.std.specs.declared.vec.Vec.{Vec}
use Rattle.hhbc_repo.specs.LinkFaults.{Name, names}

-- none of these names is among those before it
abbrev pub distinct_from : List Name → List Name → Bool
distinct_from before [] = true
distinct_from before (name ∷ more) = not (names before name) && distinct_from (before ++ name ∷ []) more

abbrev pub distinct : List Name → Bool
distinct all = distinct_from [] all

-- the bytes of each key
abbrev pub bytes_of : {A : Type 0} → List (Vec ℕ A) → List (List ℕ)
bytes_of [] = []
bytes_of (v ∷ vs) = v.items ∷ bytes_of vs
