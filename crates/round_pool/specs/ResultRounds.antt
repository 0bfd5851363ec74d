-- Rounds of the analysis of bodies, by the results that are kept for each.
use Rattle.std.specs.Prelude.{◌≡◌, ℕ, Bool, false, List, length}
use Rattle.hhbc_repo.specs.Linked.{Linked}
use Rattle.hhbc_repo.specs.Bodies.{bodies}
use Rattle.hhbc_semantics.specs.Truth.{Facts}
use Rattle.func_analyze.specs.Dependencies.{Dependency, dependencies, AreSame}
use Rattle.func_analyze.specs.Results.{BodyResult, IsResult, AreJoinedTo}
use Rattle.func_analyze.specs.Rounds.{IsFacts, top}
use Rattle.round_pool.specs.Queue.{Bodies, DependsAlone, AreFactsAfter}

-- the bodies of a repository, with names of the facts on which each depends and whether a fact of a name differs
abbrev pub by_results : (Name : Type 0) → (ℕ → List Name) → (Facts → Facts → Name → Bool) → Linked → Bodies
by_results Name depends differs r = record {
  Facts = Facts;
  Result = BodyResult;
  Name = Name;
  count = length (bodies r);
  depends = depends;
  differs = differs;
  Gives = λ F n x. IsResult r F n x;
  Joined = λ results G. AreJoinedTo r results G;
  first = top r;
}

-- whatever the names, facts by results are the facts after so many rounds
abbrev pub ResultRoundsAreFacts : Type 0 → Type 0
ResultRoundsAreFacts Name =
    (depends : ℕ → List Name) (differs : Facts → Facts → Name → Bool) (r : Linked)
    → (n : ℕ) (G : Facts) → AreFactsAfter (by_results Name depends differs r) n G → IsFacts r n G

-- with the dependencies of its codes, and a test that is false only where the facts of a name are the same, what a body gives depends on those alone
abbrev pub NamesAreDependencies : Type 0
NamesAreDependencies =
    (r : Linked) (differs : Facts → Facts → Dependency → Bool)
    → ((F G : Facts) (d : Dependency) → differs F G d ≡ false → AreSame r F G d.kind d.name)
    → DependsAlone (by_results Dependency (dependencies r) differs r)
