-- How the reader's declarations stand for those of the grammar.
use Rattle.std.specs.Prelude.{List, [], ◌∷◌, ◌++◌, codes, pos}
use Rattle.hhas_lex.specs.Tokens.{Directive, Integer, Mark}
use Rattle.hhbc_repo.specs.Languages.{Lang, Says}
use Rattle.hhbc_repo.specs.LinkFaults.{Whole}
use Rattle.hhbc_repo.specs.TextSyntax as grammar
use Rattle.hhbc_repo.specs.TextSyntax.{ADeclaration, classes_of, functions_of}
use Rattle.hhas_read.specs.declared.declarations.Declaration.{Declaration}
use Rattle.hhas_read.specs.declared.declarations.Declaration.TheVariants as declarations

abbrev pub declaration_of : Declaration → grammar.Declaration
declaration_of (declarations.Function b) = grammar.AsFunction b
declaration_of (declarations.Class c) = grammar.AsClass c

abbrev pub ADeclarationOf : Lang Declaration
ADeclarationOf ts d = ADeclaration ts (declaration_of d)

-- the functions and the classes, each in their order
abbrev pub parts_of : List grammar.Declaration → Whole
parts_of ds = record { functions = functions_of ds; classes = classes_of ds }

-- and one more
abbrev pub with_declaration : grammar.Declaration → Whole → Whole
with_declaration (grammar.AsFunction b) w = record w { functions = w.functions ++ b ∷ [] }
with_declaration (grammar.AsClass c) w = record w { classes = w.classes ++ c ∷ [] }

-- with which each text begins
abbrev pub Profile : Lang (Unit {0})
Profile = Says (Directive (codes "profile") ∷ Integer (pos 1) ∷ Mark 59 ∷ []) tt
