-- Items that close their bodies, each behind a code, are a tree of nested items.
use Rattle.std.proofs.Common.{◌≡◌, ℕ, Bool, true, false, List, [], ◌∷◌, ◌++◌, refl, sym, ap, subst, ◌∙◌, append_assoc}
use Rattle.hhbc_repo.specs.declared.parts.ItemParts.{ItemParts}
use Rattle.hhbc_repo.specs.declared.parts.ItemParts.TheVariants as items
use Rattle.hhbc_repo.specs.declared.parts.PositionParts.{PositionParts}
use Rattle.hhbc_repo.specs.BodySyntax.{Items, Done, Label, Position, Try, has_code, parts_of}
use Rattle.hhbc_repo.specs.Fits.{Open, InTry, InCatch, nests}

-- a code stands in each body of a try
abbrev pub HasCodes : Items → Type 0
HasCodes Done = Unit {0}
HasCodes (Label l r) = HasCodes r
HasCodes (Position p r) = HasCodes r
HasCodes (Try a b r) = (has_code a ≡ true) × (has_code b ≡ true) × HasCodes a × HasCodes b × HasCodes r

-- all items as a tree
pub record Grown (is : List ItemParts) : Type 0 where
  pub tree : Items
  pub codes : HasCodes tree
  pub parts : is ≡ parts_of tree

-- the items of the innermost body as a tree, which has a code where one is wanted; the mark that ends it; and those behind it
record Closed (mark : ItemParts) (Behind : List ItemParts → Type 0) (wants : Bool) (is : List ItemParts) : Type 0 where
  tree : Items
  rest : List ItemParts
  codes : HasCodes tree
  code : wants ≡ true → has_code tree ≡ true
  parts : is ≡ parts_of tree ++ (mark ∷ rest)
  behind : Behind rest

-- a tree for each open body, and one for what stands behind them
abbrev Parsed : List Open → Bool → List ItemParts → Type 0
Parsed [] wants is = Grown is
Parsed (InTry ∷ os) wants is = Closed items.Catch (Closed items.End (Parsed os false) true) wants is
Parsed (InCatch ∷ os) wants is = Closed items.End (Parsed os false) wants is

-- what an item or a try with its bodies makes of the tree behind it
record Front (grow : Items → Items) (front : List ItemParts) (wants now : Bool) : Type 0 where
  parts : (r : Items) → parts_of (grow r) ≡ front ++ parts_of r
  codes : (r : Items) → HasCodes r → HasCodes (grow r)
  code : (r : Items) → (wants ≡ true → has_code r ≡ true) → now ≡ true → has_code (grow r) ≡ true

closed_before : (grow : Items → Items) (front : List ItemParts) (wants now : Bool) → Front grow front wants now → (mark : ItemParts) (Behind : List ItemParts → Type 0) (is : List ItemParts)
    → Closed mark Behind wants is → Closed mark Behind now (front ++ is)
closed_before grow front wants now f mark Behind is c = record {
  tree = grow c.tree;
  rest = c.rest;
  codes = f.codes c.tree c.codes;
  code = f.code c.tree c.code;
  parts = ap (λ l. front ++ l) c.parts ∙ sym (append_assoc front (parts_of c.tree) (mark ∷ c.rest)) ∙ ap (λ l. l ++ (mark ∷ c.rest)) (sym (f.parts c.tree));
  behind = c.behind;
}

parsed_before : (grow : Items → Items) (front : List ItemParts) (wants now : Bool) → Front grow front wants now → (os : List Open) (is : List ItemParts) → Parsed os wants is → Parsed os now (front ++ is)
parsed_before grow front wants now f [] is g = record {
  tree = grow g.tree;
  codes = f.codes g.tree g.codes;
  parts = ap (λ l. front ++ l) g.parts ∙ sym (f.parts g.tree);
}
parsed_before grow front wants now f (InTry ∷ os) is c = closed_before grow front wants now f items.Catch (Closed items.End (Parsed os false) true) is c
parsed_before grow front wants now f (InCatch ∷ os) is c = closed_before grow front wants now f items.End (Parsed os false) is c

label_front : (l : List ℕ) (wants : Bool) → Front (Label l) (items.Label l ∷ []) wants wants
label_front l wants = record { parts = λ r. refl; codes = λ r h. h; code = λ r h. h }

position_front : (p : PositionParts) (now : Bool) → Front (Position p) (items.Position p ∷ []) false now
position_front p now = record { parts = λ r. refl; codes = λ r h. h; code = λ r h e. refl }

-- the items of a try with its bodies
abbrev try_parts : Items → Items → List ItemParts
try_parts a b = items.Try ∷ (parts_of a ++ (items.Catch ∷ (parts_of b ++ (items.End ∷ []))))

-- with what stands behind it
tried : (a b : Items) (rest : List ItemParts) → try_parts a b ++ rest ≡ items.Try ∷ (parts_of a ++ (items.Catch ∷ (parts_of b ++ (items.End ∷ rest))))
tried a b rest =
    ap (λ l. items.Try ∷ l)
    (append_assoc (parts_of a) (items.Catch ∷ (parts_of b ++ (items.End ∷ []))) rest
    ∙ ap (λ l. parts_of a ++ (items.Catch ∷ l)) (append_assoc (parts_of b) (items.End ∷ []) rest))

try_front : (a b : Items) (now : Bool) → has_code a ≡ true → has_code b ≡ true → HasCodes a → HasCodes b → Front (Try a b) (try_parts a b) false now
try_front a b now p q h k = record {
  parts = λ r. sym (tried a b (parts_of r));
  codes = λ r c. (p, q, h, k, c);
  code = λ r c e. refl;
}

try_before : (os : List Open) (now : Bool) (is : List ItemParts) → Parsed (InTry ∷ os) true is → Parsed os now (items.Try ∷ is)
try_before os now is c =
    let d = c.behind in
    let a = c.tree in
    let b = d.tree in
    subst (λ (l : List ItemParts). Parsed os now l)
    (tried a b d.rest ∙ ap (λ l. items.Try ∷ l) (sym (c.parts ∙ ap (λ l. parts_of a ++ (items.Catch ∷ l)) d.parts)))
    (parsed_before (Try a b) (try_parts a b) false now (try_front a b now (c.code refl) (d.code refl) c.codes d.codes) os d.rest d.behind)

parsed : (is : List ItemParts) (os : List Open) (wants : Bool) → nests is os wants ≡ true → Parsed os wants is
parsed [] [] wants h = record { tree = Done; codes = tt; parts = refl }
parsed [] (o ∷ os) wants h = absurd (cc)
parsed (items.Label l ∷ more) os wants h = parsed_before (Label l) (items.Label l ∷ []) wants wants (label_front l wants) os more (parsed more os wants h)
parsed (items.Position p ∷ more) os wants h = parsed_before (Position p) (items.Position p ∷ []) false wants (position_front p wants) os more (parsed more os false h)
parsed (items.Try ∷ more) os wants h = try_before os wants more (parsed more (InTry ∷ os) true h)
parsed (items.Catch ∷ more) (InTry ∷ os) false h =
    record { tree = Done; rest = more; codes = tt; code = λ e. absurd (cc); parts = refl; behind = parsed more (InCatch ∷ os) true h }
parsed (items.End ∷ more) (InCatch ∷ os) false h = record { tree = Done; rest = more; codes = tt; code = λ e. absurd (cc); parts = refl; behind = parsed more os false h }
parsed (items.Catch ∷ more) _ _ h = absurd (cc)
parsed (items.End ∷ more) _ _ h = absurd (cc)

pub grown : (is : List ItemParts) → nests is [] false ≡ true → Grown is
grown is h = parsed is [] false h
