-- Labels are found at their first places, and those that are found are the labels that are there.
use Rattle.std.proofs.Common.{◌≡◌, ℕ, suc, Bool, true, false, if◌then◌else◌, List, [], ◌∷◌, refl, sym, ap, ◌∙◌, subst, Option, Some, None, arith, cond, ◌+◌}
use Rattle.hhbc_repo.specs.declared.parts.ItemParts.{ItemParts}
use Rattle.hhbc_repo.specs.declared.parts.ItemParts.TheVariants as items
use Rattle.hhbc_repo.specs.LinkFaults.{Name, is_name, names, label_of}
use Rattle.std.specs.List.{flat_map}
use Rattle.hhbc_repo.specs.Resolved.{label_from}
use Rattle.hhbc_repo.specs.LookUps.{or_else}
use Rattle.hhbc_repo.specs.FirstNumbers.{Numbers, number_of, put}
use Rattle.hhbc_repo.specs.LabelTables.{first_label, Seen}
use Rattle.hhbc_repo.specs.declared.parts.PositionParts.{PositionParts}
use Rattle.hhbc_repo.proofs.NumbersPut.{put_number, put_paired}

pub unlabelled : (items : List ItemParts) (n : ℕ) (name : Name) → first_label n items name ≡ None → names (flat_map label_of items) name ≡ false
unlabelled [] n name e = refl
unlabelled (items.Label other ∷ more) n name e = grind (arith, unlabelled more n name)
unlabelled (items.Position p ∷ more) n name e = unlabelled more (suc n) name e
unlabelled (items.Try ∷ more) n name e = unlabelled more n name e
unlabelled (items.Catch ∷ more) n name e = unlabelled more n name e
unlabelled (items.End ∷ more) n name e = unlabelled more n name e

pub labelled : (items : List ItemParts) (n m : ℕ) (name : Name) → first_label n items name ≡ Some m → names (flat_map label_of items) name ≡ true
labelled [] n m name e = absurd (cc)
labelled (items.Label other ∷ more) n m name e = grind (arith, labelled more n m name)
labelled (items.Position p ∷ more) n m name e = labelled more (suc n) m name e
labelled (items.Try ∷ more) n m name e = labelled more n m name e
labelled (items.Catch ∷ more) n m name e = labelled more n m name e
labelled (items.End ∷ more) n m name e = labelled more n m name e

pub label_place : (items : List ItemParts) (n m : ℕ) (name : Name) → first_label n items name ≡ Some m → label_from n items name ≡ m
label_place [] n m name e = absurd (cc)
label_place (items.Label other ∷ more) n m name e = grind (arith, label_place more n m name)
label_place (items.Position p ∷ more) n m name e = label_place more (suc n) m name e
label_place (items.Try ∷ more) n m name e = label_place more n m name e
label_place (items.Catch ∷ more) n m name e = label_place more n m name e
label_place (items.End ∷ more) n m name e = label_place more n m name e

-- ---- the walk

else_else : (b : Bool) (n : ℕ) (o f : Option ℕ) → or_else (or_else o (cond b (Some n) None)) f ≡ or_else o (if b then Some n else f)
else_else b n (Some k) f = refl
else_else true n None f = refl
else_else false n None f = refl

pub seen_label : (t new : Numbers) (here : ℕ) (name : Name) (rest all : List ItemParts) → Seen t here (items.Label name ∷ rest) all → new ≡ put t name here → Seen new here rest all
seen_label t new here name rest all s is =
    subst (λ p. Seen p here rest all) (sym is) (record {
      count = s.count;
      numbers = λ q. ap (λ o. or_else o (first_label here rest q)) (put_number t name q here s.paired) ∙ else_else (is_name q name) here (number_of t q) (first_label here rest q) ∙ s.numbers q;
      paired = put_paired t name here s.paired;
    })

pub seen_position : (t : Numbers) (here next : ℕ) (p : PositionParts) (rest all : List ItemParts) → next ≡ here + 1 → Seen t here (items.Position p ∷ rest) all → Seen t next rest all
seen_position t here next p rest all is s =
    let up : next ≡ suc here = omega (arith, is) in
    subst (λ n. Seen t n rest all) (sym up) (record {
      count = omega (arith, s.count);
      numbers = s.numbers;
      paired = s.paired;
    })

pub seen_try : (t : Numbers) (here : ℕ) (rest all : List ItemParts) → Seen t here (items.Try ∷ rest) all → Seen t here rest all
seen_try t here rest all s = record { count = s.count; numbers = s.numbers; paired = s.paired }

pub seen_catch : (t : Numbers) (here : ℕ) (rest all : List ItemParts) → Seen t here (items.Catch ∷ rest) all → Seen t here rest all
seen_catch t here rest all s = record { count = s.count; numbers = s.numbers; paired = s.paired }

pub seen_end : (t : Numbers) (here : ℕ) (rest all : List ItemParts) → Seen t here (items.End ∷ rest) all → Seen t here rest all
seen_end t here rest all s = record { count = s.count; numbers = s.numbers; paired = s.paired }
