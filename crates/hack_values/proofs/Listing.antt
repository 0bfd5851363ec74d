-- Texts of which the first may be still to come, or may be behind.
use Rattle.std.proofs.Common.{ℕ, Bool, true, false, List}
use Rattle.hack_values.specs.Show.{with_commas, after_comma}

abbrev pub rest_of : Bool → List (List ℕ) → List ℕ
rest_of true texts = with_commas texts
rest_of false texts = after_comma texts
