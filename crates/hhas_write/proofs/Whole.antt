-- The text of a whole repository.
use Rattle.std.proofs.Common.{◌≡◌, List, ℕ, [], ◌∷◌, ◌++◌, codes, map, pos, ap, sym, arith, ◌∙◌}
use Rattle.std.proofs.lemmas.Fmt.{decimal_digit}
use Rattle.std.specs.List.{flat_map}
use Rattle.hhas_lex.specs.Spaced.{Spaced, text_of}
use Rattle.hhas_lex.specs.Tokens.{Directive, Integer, Mark}
use Rattle.hhbc_repo.specs.declared.body.Body.{Body}
use Rattle.hhbc_repo.specs.declared.repo.Class.{Class}
use Rattle.hhbc_repo.specs.Bodies.{class_names}
use Rattle.hhbc_repo.specs.Canonical.{canonical_body, canonical_class}
use Rattle.hhbc_repo.specs.CanonicalText.{canonical_text, class_pieces, function_pieces, spaced, tight}
use Rattle.hhbc_repo.specs.Linked.{Linked}
use Rattle.hhbc_repo.specs.LinkFaults.{Name}
use Rattle.hhas_write.proofs.Written.{three_written}

abbrev profile : List Spaced
profile = tight (Directive (codes "profile")) ∷ spaced (Integer (pos 1)) ∷ tight (Mark 59) ∷ []

abbrev functions_of : List Name → List Body → List Spaced
functions_of names functions = flat_map function_pieces (map (canonical_body names) functions)

abbrev classes_of : List Name → List Class → List Spaced
classes_of names classes = flat_map class_pieces (map (canonical_class names) classes)

profile_text : codes ".profile 1;" ≡ text_of profile
profile_text = ap (λ (l : List ℕ). codes ".profile " ++ (l ++ codes ";")) (sym (decimal_digit 1 (omega arith)))

named_by : (r : Linked) (names : List Name) (functions : List Body) (classes : List Class) → names ≡ class_names r → functions ≡ r.functions → classes ≡ r.classes
    → text_of (profile ++ (functions_of names functions ++ classes_of names classes)) ++ 10 ∷ [] ≡ canonical_text r
named_by r names functions classes n f c =
    ap (λ (ns : List Name). text_of (profile ++ (functions_of ns functions ++ classes_of ns classes)) ++ 10 ∷ []) n
    ∙ (ap (λ (fs : List Body). text_of (profile ++ (functions_of (class_names r) fs ++ classes_of (class_names r) classes)) ++ 10 ∷ []) f
    ∙ ap (λ (cs : List Class). text_of (profile ++ (functions_of (class_names r) r.functions ++ classes_of (class_names r) cs)) ++ 10 ∷ []) c)

pub whole_written : (r : Linked) (names : List Name) (functions : List Body) (classes : List Class) (start one two new : List ℕ)
    → names ≡ class_names r → functions ≡ r.functions → classes ≡ r.classes → start ≡ codes ".profile 1;"
    → one ≡ start ++ text_of (functions_of names functions) → two ≡ one ++ text_of (classes_of names classes) → new ≡ two ++ 10 ∷ [] → new ≡ canonical_text r
whole_written r names functions classes start one two new n f c s x y z =
    z ∙ (ap (λ (l : List ℕ). l ++ 10 ∷ []) (three_written profile (functions_of names functions) (classes_of names classes) [] start one two (s ∙ profile_text) x y)
    ∙ named_by r names functions classes n f c)
