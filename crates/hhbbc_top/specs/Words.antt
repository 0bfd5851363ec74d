-- The words of a command.
use Rattle.std.specs.Prelude.{ℕ, ◌&&◌, nat_eq, nat_le, Bool, true, false, List, [], ◌∷◌, Option, Some, None, codes, if◌then◌else◌}
use Rattle.std.specs.List.{list_all}
use Rattle.std.specs.Cmp.Lexicographic.{pointwise}
use Rattle.hhas_lex.specs.Bytes.{is_between, is_digit, number_from}
use Rattle.hhbbc_top.specs.declared.words.Command.{Command}
use Rattle.hhbbc_top.specs.declared.words.Command.TheVariants.{Check, Format, Analyze, Run}

-- digits, the first of which isn't 0
abbrev pub is_numeral : List ℕ → Bool
is_numeral [] = false
is_numeral (d ∷ ds) = is_between 49 57 d && list_all is_digit ds

-- the greatest bound of steps, and the bound where no word gives one
abbrev pub max_steps : ℕ
max_steps = 1000000000

abbrev pub default_steps : ℕ
default_steps = 1000000

-- the bound of steps of a word
abbrev pub steps_of : List ℕ → Option ℕ
steps_of word = if is_numeral word && nat_le (number_from 0 word) max_steps then Some (number_from 0 word) else None

-- "--asserts", or nothing
abbrev pub asserts_in : ℕ → List (List ℕ) → Option Command
asserts_in steps [] = Some (Run steps false)
asserts_in steps (word ∷ []) = if pointwise nat_eq word (codes "--asserts") then Some (Run steps true) else None
asserts_in steps (word ∷ next ∷ more) = None

abbrev pub with_steps : Option ℕ → List (List ℕ) → Option Command
with_steps None words = None
with_steps (Some steps) words = asserts_in steps words

-- "--steps" and a bound, or nothing, and what may follow it
abbrev pub options_in : List (List ℕ) → Option Command
options_in [] = asserts_in default_steps []
options_in (word ∷ []) = asserts_in default_steps (word ∷ [])
options_in (word ∷ next ∷ more) = if pointwise nat_eq word (codes "--steps") then with_steps (steps_of next) more else None

-- no further words
abbrev pub alone : Command → List (List ℕ) → Option Command
alone c [] = Some c
alone c (word ∷ more) = None

-- the command of the words, where they are those of one
abbrev pub command_of : List (List ℕ) → Option Command
command_of [] = None
command_of (word ∷ more) =
    if pointwise nat_eq word (codes "analyze") then alone Analyze more
    else if pointwise nat_eq word (codes "check") then alone Check more
    else if pointwise nat_eq word (codes "fmt") then alone Format more
    else if pointwise nat_eq word (codes "run") then options_in more
    else None
