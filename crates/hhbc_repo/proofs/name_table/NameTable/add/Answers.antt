use Rattle.std.proofs.Common.{◌≡◌, ℕ, List, [], ◌∷◌, ◌++◌, Vec, Global, ap₂, subst, if◌then◌else◌, Bool, false, ◌∙◌, ap, sym, bytes_eq}
use Rattle.std.specs.List.{list_any}
use Rattle.hhbc_repo.specs.LinkFaults.{names}
use Rattle.hhbc_repo.specs.Names.{bytes_of}
use Rattle.hhbc_repo.proofs.Keyed.{names-bytes, bytes_of-append}
use Rattle.hhbc_repo.proofs.name_table.NameTable.add.Goals as goal

pub returns : goal.returns
returns c =
    let keys = c.self.inside.keys.keys in
    let key = c.in_ok-key.key in
    let absent : list_any (λ (k : Vec ℕ Global). bytes_eq c.args.name.now k.items) keys ≡ false =
    names-bytes c.args.name.now keys ∙ ap (λ all. names all c.args.name.now) c.self.view_is ∙ c.requires in
    let none : list_any (λ (k : Vec ℕ Global). bytes_eq key.items k.items) keys ≡ false =
    subst (λ q. list_any (λ (k : Vec ℕ Global). bytes_eq q k.items) keys ≡ false) (sym c.in_ok-key.ensures.items) absent in
    ap bytes_of (c.in_ok-insert.ensures.keys ∙ ap (λ (b : Bool). if b then keys else keys ++ key ∷ []) none) ∙ bytes_of-append keys key
    ∙ ap₂ (λ (l : List (List ℕ)) (q : List ℕ). l ++ q ∷ []) c.self.view_is c.in_ok-key.ensures.items
