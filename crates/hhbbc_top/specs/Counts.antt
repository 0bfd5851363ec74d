-- How much there is in a repository.
use Rattle.std.specs.Prelude.{ℕ, ◌+◌, List, [], ◌∷◌, ◌++◌, length, codes}
use Rattle.std.specs.Fmt.{decimal}
use Rattle.hhbc_repo.specs.declared.body.Body.{Body}
use Rattle.hhbc_repo.specs.Linked.{Linked}
use Rattle.hhbc_repo.specs.Bodies.{bodies}
use Rattle.hhbc_repo.specs.LookUps.{methods_in}

-- the positions of all these bodies
abbrev pub position_count : List Body → ℕ
position_count [] = 0
position_count (b ∷ bs) = length b.positions + position_count bs

-- declared functions, methods and classes, and the positions of all bodies
abbrev pub counts_line : Linked → List ℕ
counts_line r =
    codes "functions "
    ++ (decimal (length r.functions)
    ++ (codes " methods "
    ++ (decimal (length (methods_in r.classes))
    ++ (codes " classes "
    ++ (decimal (length r.classes)
    ++ (codes " positions "
    ++ (decimal (position_count (bodies r)) ++ 10 ∷ [])))))))
