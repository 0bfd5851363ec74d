-- The states along codes, one code at a time.
use Rattle.std.proofs.Common.{◌≡◌, ◌∙◌, ap, List, [], ◌∷◌, ◌++◌, append_assoc, map, Option}
use Rattle.type_lattice.specs.declared.types.HType.{HType}
use Rattle.hhbc_repo.specs.declared.body.Position.{Position}
use Rattle.abstract_step.specs.State.{State}
use Rattle.func_analyze.specs.Annotated.{claims, with_claims}
use Rattle.func_analyze.specs.Chain.{chain, state_behind, returned_by, returned_at_end}
use Rattle.hhbbc_top.specs.declared.form.Line.{Line}
use Rattle.hhbbc_top.specs.Forms.{code_of, bare_of}

-- codes with their assertions, from the state at the first
abbrev pub stated : List Line → Option State → List Position
stated steps o = with_claims (map bare_of steps) (chain (map bare_of steps) o)

-- what the last code returns, where some are left
abbrev pub end_of : HType → List Line → Option State → HType
end_of last [] o = last
end_of last (s ∷ more) o = returned_at_end (map bare_of (s ∷ more)) o

pub stated-turn : (whole done now : List Position) (s : Line) (more : List Line) (o next : Option State) (p : Position)
    → done ++ stated (s ∷ more) o ≡ whole → p ≡ record { asserts = claims (code_of s.step) o; code = code_of s.step } → next ≡ state_behind (code_of s.step) o → now ≡ done ++ p ∷ []
    → now ++ stated more next ≡ whole
stated-turn whole done now s more o next p told p-is next-is now-is =
    ap (λ l. l ++ stated more next) now-is ∙ append_assoc done (p ∷ []) (stated more next)
    ∙ (λ i. done ++ (p-is i ∷ stated more (next-is i))) ∙ told

pub end_of-turn : (whole last now : HType) (s : Line) (more : List Line) (o next : Option State)
    → end_of last (s ∷ more) o ≡ whole → now ≡ returned_by (code_of s.step) o → next ≡ state_behind (code_of s.step) o → end_of now more next ≡ whole
end_of-turn whole last now s [] o next told now-is next-is = now-is ∙ told
end_of-turn whole last now s (u ∷ us) o next told now-is next-is = ap (λ n. returned_at_end (map bare_of (u ∷ us)) n) next-is ∙ told
