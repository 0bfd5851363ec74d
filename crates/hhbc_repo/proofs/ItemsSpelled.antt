-- Items that fit and close their bodies are spelled by their pieces.
use Rattle.std.proofs.Common.{◌≡◌, ℕ, suc, true, false, not, List, [], ◌∷◌, ◌++◌, codes, refl, sym, ap, subst, ◌∙◌, append_assoc}
use Rattle.std.specs.List.{list_all}
use Rattle.std.proofs.lemmas.Bool.{and_parts, not-true}
use Rattle.std.proofs.lemmas.List.{append-nil}
use Rattle.hhas_lex.specs.Tokens.{Token, Directive, Word, Mark}
use Rattle.hhas_lex.specs.Spelling.{is_word}
use Rattle.hhbc_repo.specs.declared.parts.ItemParts.{ItemParts}
use Rattle.hhbc_repo.specs.declared.parts.ItemParts.TheVariants as items
use Rattle.hhbc_repo.specs.CodeSyntax.{is_reserved}
use Rattle.hhbc_repo.specs.BodySyntax.{Items, Done, Label, Position, Try, ItemsOf, parts_of, AnItemList}
use Rattle.hhbc_repo.specs.Fits.{is_label, position_fits, item_fits, nests}
use Rattle.hhbc_repo.specs.CanonicalText.{position_pieces, item_pieces}
use Rattle.hhbc_repo.proofs.Clearing.{tokens_in}
use Rattle.hhbc_repo.proofs.CodesSpelled.{position_spelled}
use Rattle.hhbc_repo.proofs.ItemTrees.{HasCodes, grown}
use Rattle.hhbc_repo.proofs.PiecesSpelled.{tokens_both}
use Rattle.hhbc_repo.proofs.SpelledTypes.{all_front, all_back}

-- the tokens of a tree of items within so many braces
abbrev tree_tokens : ℕ → Items → List Token
tree_tokens depth Done = []
tree_tokens depth (Label l r) = Word l ∷ Mark 58 ∷ tree_tokens depth r
tree_tokens depth (Position p r) = tokens_in (position_pieces depth p) ++ tree_tokens depth r
tree_tokens depth (Try a b r) =
    Directive (codes "try") ∷ Mark 123 ∷ (tree_tokens (suc depth) a ++ (Mark 125 ∷ Directive (codes "catch") ∷ Mark 123 ∷ (tree_tokens (suc depth) b ++ (Mark 125 ∷ tree_tokens depth r))))

-- the tokens of the pieces of its items, with what stands behind them
pieces_of_tree : (depth : ℕ) (i : Items) (rest : List ItemParts) → tokens_in (item_pieces depth (parts_of i ++ rest)) ≡ tree_tokens depth i ++ tokens_in (item_pieces depth rest)
pieces_of_tree depth Done rest = refl
pieces_of_tree depth (Label l r) rest = ap (λ ts. Word l ∷ Mark 58 ∷ ts) (pieces_of_tree depth r rest)
pieces_of_tree depth (Position p r) rest =
    tokens_both (position_pieces depth p) (item_pieces depth (parts_of r ++ rest))
    ∙ ap (λ ts. tokens_in (position_pieces depth p) ++ ts) (pieces_of_tree depth r rest)
    ∙ sym (append_assoc (tokens_in (position_pieces depth p)) (tree_tokens depth r) (tokens_in (item_pieces depth rest)))
pieces_of_tree depth (Try a b r) rest =
    let last = items.End ∷ (parts_of r ++ rest) in
    let second = items.Catch ∷ (parts_of b ++ last) in
    let first = tree_tokens (suc depth) a in
    let caught = tree_tokens (suc depth) b in
    let more = tokens_in (item_pieces depth rest) in
    let grouped : (parts_of a ++ (items.Catch ∷ (parts_of b ++ (items.End ∷ parts_of r)))) ++ rest ≡ parts_of a ++ second =
    append_assoc (parts_of a) (items.Catch ∷ (parts_of b ++ (items.End ∷ parts_of r))) rest
    ∙ ap (λ l. parts_of a ++ (items.Catch ∷ l)) (append_assoc (parts_of b) (items.End ∷ parts_of r) rest) in
    ap (λ ts. Directive (codes "try") ∷ Mark 123 ∷ ts)
    (ap (λ l. tokens_in (item_pieces (suc depth) l)) grouped
    ∙ pieces_of_tree (suc depth) a second
    ∙ ap (λ ts. first ++ (Mark 125 ∷ Directive (codes "catch") ∷ Mark 123 ∷ ts))
    (pieces_of_tree (suc depth) b last
    ∙ ap (λ ts. caught ++ (Mark 125 ∷ ts)) (pieces_of_tree depth r rest)
    ∙ sym (append_assoc caught (Mark 125 ∷ tree_tokens depth r) more))
    ∙ sym (append_assoc first (Mark 125 ∷ Directive (codes "catch") ∷ Mark 123 ∷ (caught ++ (Mark 125 ∷ tree_tokens depth r))) more))

tree_spelled : (depth : ℕ) (i : Items) → HasCodes i → list_all item_fits (parts_of i) ≡ true → ItemsOf (tree_tokens depth i) i
tree_spelled depth Done c h = refl
tree_spelled depth (Label l r) c h =
    let x = and_parts (is_label l) (list_all item_fits (parts_of r)) h in
    let y = and_parts (is_word l) (not (is_reserved l)) x.0 in
    (not-true (is_reserved l) y.1, (tree_tokens depth r, tree_spelled depth r c x.1, refl))
tree_spelled depth (Position p r) c h =
    let x = and_parts (position_fits p) (list_all item_fits (parts_of r)) h in
    (tokens_in (position_pieces depth p), tree_tokens depth r, position_spelled depth p x.0, tree_spelled depth r c x.1, refl)
tree_spelled depth (Try a b r) c h =
    let last = items.End ∷ parts_of r in
    let second = items.Catch ∷ (parts_of b ++ last) in
    let k = all_back item_fits (parts_of a) second h in (
      c.0,
      c.1,
      (
        tree_tokens (suc depth) a,
        tree_tokens (suc depth) b,
        tree_tokens depth r,
        tree_spelled (suc depth) a c.2 (all_front item_fits (parts_of a) second h),
        tree_spelled (suc depth) b c.3 (all_front item_fits (parts_of b) last k),
        tree_spelled depth r c.4 (all_back item_fits (parts_of b) last k),
        refl,
      ),
    )

pub items_spelled : (depth : ℕ) (is : List ItemParts) → nests is [] false ≡ true → list_all item_fits is ≡ true → AnItemList (tokens_in (item_pieces depth is)) is
items_spelled depth is n h =
    let g = grown is n in
    let same : tokens_in (item_pieces depth is) ≡ tree_tokens depth g.tree =
    ap (λ l. tokens_in (item_pieces depth l)) (g.parts ∙ sym (append-nil (parts_of g.tree))) ∙ pieces_of_tree depth g.tree [] ∙ append-nil (tree_tokens depth g.tree) in
    record {
      nested = g.tree;
      word = subst (λ (ts : List Token). ItemsOf ts g.tree) (sym same) (tree_spelled depth g.tree g.codes (subst (λ (l : List ItemParts). list_all item_fits l ≡ true) g.parts h));
      parts = g.parts;
    }
