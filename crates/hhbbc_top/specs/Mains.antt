-- What is made of a repository of the form that is annotated and run.
use Rattle.std.specs.Prelude.{◌≡◌, ◌≤◌, ℕ, ℤ, Bool, true, false, All, List, [], ◌∷◌, map, length, None, codes}
use Rattle.type_lattice.specs.declared.types.HType.{HType}
use Rattle.hhbc_repo.specs.declared.code.Code.{Code}
use Rattle.hhbc_repo.specs.declared.body.Body.{Body}
use Rattle.hhbc_repo.specs.declared.body.Position.{Position}
use Rattle.hhbc_semantics.specs.Form.{FitsCode, FitsStated, FitsClaimed, FitClaimed, IsSecondBody, IsSecondForm}
use Rattle.hhbc_repo.specs.Linked.{Linked}
use Rattle.hhbc_semantics.specs.PlainTypes.{TypeName, one_int, type_named}
use Rattle.hhbc_repo.specs.Shapes.{Types}
use Rattle.func_analyze.specs.Laws.{IsWord, AreWords}
use Rattle.hhbbc_top.specs.declared.form.Step.{Step}
use Rattle.hhbbc_top.specs.declared.form.Step.TheVariants as steps
use Rattle.hhbbc_top.specs.declared.form.Line.{Line}
use Rattle.hhbbc_top.specs.declared.form.Main.{Main}
use Rattle.hhbbc_top.specs.Forms.{code_of, position_of, body_of, repo_of}

-- a plain type: that of one int, or one that a word names
abbrev pub IsOneInt : HType → Type 0
IsOneInt t = (i : ℤ) × (t ≡ one_int i)

abbrev pub IsNamed : HType → Type 0
IsNamed t = (n : TypeName) × (t ≡ type_named n)

-- a type without its containers
abbrev pub bare : HType → HType
bare t = record t { vec = None; dict = None; keyset = None }

-- the step is the code, which fits so many locals, and an int in it is of 64 bits
pub record IsStep (count : ℕ) (c : Code) (s : Step) : Type 0 where
  pub is : c ≡ code_of s
  pub fits : FitsCode count c
  pub word : IsWord c

-- the same of a code with its assertions, and of all of a body
pub record IsLine (count : ℕ) (p : Position) (l : Line) : Type 0 where
  pub is : p ≡ position_of l
  pub fits : FitsClaimed count p
  pub word : IsWord p.code

pub record AreLines (count : ℕ) (ps : List Position) (ls : List Line) : Type 0 where
  pub are : ps ≡ map position_of ls
  pub fit : All (FitsClaimed count) ps
  pub words : AreWords ps

-- the last of them and no other returns
pub record AreCodes (count : ℕ) (ps : List Position) (ls : List Line) : Type 0 where
  pub are : ps ≡ map position_of ls
  pub fit : FitClaimed count ps
  pub words : AreWords ps

abbrev pub is_return : Step → Bool
is_return steps.RetC = true
is_return _ = false

-- the last of the codes returns and no other, from whether the one before them returns
abbrev pub ends_from : Bool → List Line → Bool
ends_from returned [] = returned
ends_from true (l ∷ ls) = false
ends_from false (l ∷ ls) = ends_from (is_return l.step) ls

abbrev pub returns_last : List Line → Bool
returns_last ls = ends_from false ls

-- a body of the form, but for the names of its locals and its codes
pub record IsHead (b : Body) : Type 0 where
  pub name : b.name ≡ codes "main"
  pub params : b.params ≡ 0
  pub iters : b.iters ≡ 0
  pub regions : b.regions ≡ []
  pub stated : FitsStated b.stated
  pub locals : length b.locals ≤ 255
  pub few : length b.positions ≤ 200

-- the function is the body, which is of the second form; its ints are of 64 bits
pub record IsMainIn (b : Body) (m : Main) : Type 0 where
  pub is : b ≡ body_of m
  pub second : IsSecondBody b
  pub words : AreWords b.positions

-- the function is all of the repository, which is of the second form and keeps to its shapes
pub record IsMainOf (r : Linked) (m : Main) : Type 0 where
  pub is : r ≡ repo_of m
  pub form : IsSecondForm r
  pub types : Types r
  pub words : AreWords form.body.positions
