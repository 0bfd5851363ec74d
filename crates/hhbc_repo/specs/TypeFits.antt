-- Types as texts spell them: within their ranges, their classes numbered as they come; and constraints.
use Rattle.std.specs.Prelude.{Bool, ◌&&◌, length}
use Rattle.std.specs.List.{list_all}
use Rattle.std.specs.Str.{bytes_eq}
use Rattle.hhas_lex.specs.Spelling.{is_word}
use Rattle.type_lattice.specs.InRange.{type_in_range, classes_of}
use Rattle.type_lattice.specs.Keep.{is_constraint}
use Rattle.hhbc_repo.specs.declared.parts.TypeParts.{TypeParts}
use Rattle.hhbc_repo.specs.Bodies.{numbers}

-- the classes of a type as it is spelled are numbered as they come, and each has its name
abbrev pub type_fits : TypeParts → Bool
type_fits t = type_in_range t.t && (bytes_eq (classes_of t.t) (numbers 0 (length t.classes)) && list_all is_word t.classes)

abbrev pub constraint_fits : TypeParts → Bool
constraint_fits t = type_fits t && is_constraint t.t
