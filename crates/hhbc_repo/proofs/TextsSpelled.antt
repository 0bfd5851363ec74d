-- The text of parts that fit spells them.
use Rattle.std.proofs.Common.{◌≡◌, true, List, [], ◌∷◌, ◌++◌, map, codes, pos, refl, sym, ap, subst, ◌∙◌, append_assoc}
use Rattle.std.specs.List.{list_all, flat_map}
use Rattle.std.proofs.lemmas.Bool.{and_parts}
use Rattle.std.proofs.lemmas.List.{append-nil}
use Rattle.hhas_lex.specs.Spaced.{Spaced, text_of, last_of}
use Rattle.hhas_lex.specs.Spelling.{spelling}
use Rattle.hhas_lex.specs.Tokens.{Directive, Integer, Mark, End, tokens}
use Rattle.hhas_lex.proofs.Following.{tokens-nil}
use Rattle.hhas_lex.proofs.Spacing.{text-read}
use Rattle.hhas_lex.proofs.Spelled.{white-skipped}
use Rattle.hhas_lex.proofs.Touching.{white-apart}
use Rattle.hhbc_repo.specs.declared.parts.BodyParts.{BodyParts}
use Rattle.hhbc_repo.specs.declared.parts.ClassParts.{ClassParts}
use Rattle.hhbc_repo.specs.LinkFaults.{Whole}
use Rattle.hhbc_repo.specs.Languages.{Many}
use Rattle.hhbc_repo.specs.TextSyntax.{Declaration, AsFunction, AsClass, ADeclaration, functions_of, classes_of, Spells}
use Rattle.hhbc_repo.specs.Fits.{body_fits, class_fits, parts_fit}
use Rattle.hhbc_repo.specs.CanonicalText.{function_pieces, class_pieces, whole_pieces, parts_text}
use Rattle.hhbc_repo.proofs.BodiesSpelled.{body_spelled, body_clear}
use Rattle.hhbc_repo.proofs.ClassesSpelled.{class_spelled, class_clear}
use Rattle.hhbc_repo.proofs.Clearing.{Clear, tokens_in}
use Rattle.hhbc_repo.proofs.ClearTogether.{IsClear, both_clear, each_clear, spaced_clear, tight_clear}
use Rattle.hhbc_repo.proofs.SpelledTogether.{many_spelled, picked, passed_over}

-- ---- declarations

-- the functions, then the classes
abbrev declared_in : Whole → List Declaration
declared_in w = map AsFunction w.functions ++ (map AsClass w.classes ++ [])

functions_kept : (w : Whole) → w.functions ≡ functions_of (declared_in w)
functions_kept w =
    sym (picked functions_of AsFunction (λ v ds. refl) w.functions (map AsClass w.classes ++ [])
    ∙ ap (λ l. w.functions ++ l) (passed_over functions_of AsClass (λ v ds. refl) w.classes [])
    ∙ append-nil w.functions)

classes_kept : (w : Whole) → w.classes ≡ classes_of (declared_in w)
classes_kept w =
    sym (passed_over classes_of AsFunction (λ v ds. refl) w.functions (map AsClass w.classes ++ [])
    ∙ picked classes_of AsClass (λ v ds. refl) w.classes []
    ∙ append-nil w.classes)

abbrev declared_pieces : Whole → List Spaced
declared_pieces w = flat_map function_pieces w.functions ++ flat_map class_pieces w.classes

function_spelled : (b : BodyParts) → body_fits b ≡ true → ADeclaration (tokens_in (function_pieces b)) (AsFunction b)
function_spelled b h = body_spelled 0 (codes "function") b h

class_declared : (c : ClassParts) → class_fits c ≡ true → ADeclaration (tokens_in (class_pieces c)) (AsClass c)
class_declared c h = class_spelled c h

function_clear : (b : BodyParts) → body_fits b ≡ true → IsClear (function_pieces b)
function_clear b h = body_clear 0 (codes "function") refl b h

declared_spelled : (w : Whole) → parts_fit w.functions w.classes ≡ true → Many ADeclaration (tokens_in (declared_pieces w)) (declared_in w)
declared_spelled w h =
    let x = and_parts (list_all body_fits w.functions) (list_all class_fits w.classes) h in
    let functions = flat_map function_pieces w.functions in
    let classes = flat_map class_pieces w.classes in
    subst (λ (ss : List Spaced). Many ADeclaration (tokens_in ss) (declared_in w)) (ap (λ ss. functions ++ ss) (append-nil classes))
    (many_spelled ADeclaration AsFunction function_pieces body_fits function_spelled w.functions x.0 (map AsClass w.classes ++ []) (classes ++ [])
    (many_spelled ADeclaration AsClass class_pieces class_fits class_declared w.classes x.1 [] [] refl))

whole_clear : (w : Whole) → parts_fit w.functions w.classes ≡ true → IsClear (whole_pieces w)
whole_clear w h =
    let x = and_parts (list_all body_fits w.functions) (list_all class_fits w.classes) h in
    spaced_clear (Integer (pos 1)) _ refl
    (tight_clear (Mark 59) _ refl refl refl
    (both_clear (flat_map function_pieces w.functions) (flat_map class_pieces w.classes) (each_clear function_pieces body_fits function_clear w.functions x.0)
    (each_clear class_pieces class_fits class_clear w.classes x.1)))

-- ---- texts

-- the tokens of the text are those of its pieces, and the end
text_tokens : (w : Whole) → Clear (whole_pieces w) → tokens (parts_text w) ≡ Directive (codes "profile") ∷ (tokens_in (whole_pieces w) ++ End ∷ [])
text_tokens w c =
    let first = Directive (codes "profile") in
    ap tokens (append_assoc (spelling first) (text_of (whole_pieces w)) (10 ∷ []))
    ∙ text-read first (whole_pieces w) (10 ∷ []) refl (c first) (white-apart (last_of first (whole_pieces w)) 10 [] refl)
    ∙ ap (λ ts. first ∷ (tokens_in (whole_pieces w) ++ ts)) (white-skipped 10 [] refl ∙ tokens-nil)

pub text_spelled : (w : Whole) → parts_fit w.functions w.classes ≡ true → Spells (parts_text w) (record { functions = w.functions; classes = w.classes })
text_spelled w h = record {
  declared = declared_in w;
  word = record {
    rest = tokens_in (declared_pieces w) ++ End ∷ [];
    word = record { first = tokens_in (declared_pieces w); word = declared_spelled w h; tokens = refl };
    tokens = text_tokens w (whole_clear w h).behind;
  };
  functions = functions_kept w;
  classes = classes_kept w;
}
