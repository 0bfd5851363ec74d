-- Small lists of tokens and what they spell.
use Rattle.std.proofs.Common.{[], ◌∷◌, refl, true, Some, None, codes, pos, inr, lit≤}
use Rattle.hhas_lex.specs.Tokens.{Directive, Word, Integer, Mark, LessEqual, End}
use Rattle.hhbc_ops.specs.declared.op.Op.TheVariants as ops
use Rattle.hhbc_ops.specs.declared.words.QueryMode.TheVariants as modes
use Rattle.type_lattice.specs.declared.types.IntPart.TheVariants as ints
use Rattle.type_lattice.specs.declared.types.StrPart.TheVariants as strs
use Rattle.type_lattice.specs.declared.types.ObjPart.TheVariants as objs
use Rattle.type_lattice.specs.Types.{never, never_leaf}
use Rattle.hhbc_repo.specs.declared.parts.CodeParts.TheVariants as forms
use Rattle.hhbc_repo.specs.declared.parts.ImmParts.TheVariants as imms
use Rattle.hhbc_repo.specs.declared.parts.BaseParts.TheVariants as bases
use Rattle.hhbc_repo.specs.declared.parts.MemberKeyParts.TheVariants as keys
use Rattle.hhbc_repo.specs.declared.parts.FinalParts.TheVariants as finals
use Rattle.hhbc_repo.specs.declared.parts.ItemParts.TheVariants as items
use Rattle.hhbc_repo.specs.TypeSyntax.{AType, AConstraint}
use Rattle.hhbc_repo.specs.TypeSyntax as types
use Rattle.hhbc_repo.specs.CodeSyntax.{ACode, AMemberSeq, is_reserved}
use Rattle.hhbc_repo.specs.BodySyntax.{ABody, AnItemList, Items}
use Rattle.hhbc_repo.specs.BodySyntax as nests
use Rattle.hhbc_repo.specs.TextSyntax.{AText}

-- ".profile 1;" alone
pub empty : AText (Directive (codes "profile") ∷ Integer (pos 1) ∷ Mark 59 ∷ End ∷ []) (record { functions = []; classes = [] })
empty = record {
  declared = [];
  word = record { rest = End ∷ []; word = record { first = []; word = refl; tokens = refl }; tokens = refl };
  functions = refl;
  classes = refl;
}

-- "Uninit|Int=5|Vec<Obj=A>|Dict<Str,Obj<=B>>"
pub a_type : AType
    (Word (codes "Uninit") ∷ Mark 124 ∷ Word (codes "Int") ∷ Mark 61 ∷ Integer (pos 5) ∷ Mark 124
    ∷ Word (codes "Vec") ∷ Mark 60 ∷ Word (codes "Obj") ∷ Mark 61 ∷ Word (codes "A") ∷ Mark 62 ∷ Mark 124
    ∷ Word (codes "Dict") ∷ Mark 60 ∷ Word (codes "Str") ∷ Mark 44 ∷ Word (codes "Obj") ∷ LessEqual ∷ Word (codes "B") ∷ Mark 62 ∷ [])
    (record {
      t = record never {
        uninit = true;
        int = ints.One (pos 5);
        vec = Some (record never_leaf { obj = objs.Exact 0 });
        dict = Some (record never_leaf { str = strs.Any }, record never_leaf { obj = objs.Sub 1 });
      };
      classes = codes "A" ∷ codes "B" ∷ [];
    })
a_type = record {
  value = types.AtomsType (types.Uninit ∷ types.Plain (types.OneInt (pos 5)) ∷ types.VecOf (types.Of (types.Exact (codes "A") ∷ []))
      ∷ types.DictOf (types.Of (types.Str ∷ [])) (types.Of (types.Sub (codes "B") ∷ [])) ∷ []);
  word = (
    (
      _,
      _,
      refl,
      (
        _,
        _,
        (refl, tt),
        (
          _,
          _,
          record { rest = _; word = record { first = _; word = ((refl, tt), (lit≤ tt, tt)); tokens = refl }; tokens = refl },
          record {
            rest = _;
            word = record {
              first = _;
              second = _;
              left = record { first = _; word = (((refl, tt), (lit≤ tt, tt)), refl); tokens = refl };
              right = record { first = _; word = ((refl, tt), (lit≤ tt, tt)); tokens = refl };
              tokens = refl;
            };
            tokens = refl;
          },
          refl,
        ),
        refl,
      ),
      refl,
    ),
    (lit≤ tt, (lit≤ tt, (lit≤ tt, (lit≤ tt, tt)))),
  );
  is = refl;
}

-- "Switch 0 <a b>" and "BaseH Dim QT:p QueryM 0 Isset EI:1"
pub a_switch : ACode (Word (codes "Switch") ∷ Integer (pos 0) ∷ Mark 60 ∷ Word (codes "a") ∷ Word (codes "b") ∷ Mark 62 ∷ [])
    (forms.Plain (record {
      op = ops.Switch;
      imms = imms.Int (pos 0)
          ∷ imms.Arms (record { text = None; target = codes "a" } ∷ record { text = None; target = codes "b" } ∷ []) ∷ [];
    }))
unfolding Rattle.hhbc_repo.specs.CodeSyntax.other_names
a_switch = record {
  rest = _;
  word = (
    _,
    _,
    refl,
    (
      _,
      _,
      record {
        rest = _;
        word = record { first = _; word = (_, _, ((refl, refl), refl), (_, _, ((refl, refl), refl), refl, refl), refl); tokens = refl };
        tokens = refl;
      },
      refl,
      refl,
    ),
    refl,
  );
  tokens = refl;
}

pub a_query : ACode (Word (codes "BaseH") ∷ Word (codes "Dim") ∷ Word (codes "QT") ∷ Mark 58 ∷ Word (codes "p") ∷ Word (codes "QueryM")
    ∷ Integer (pos 0) ∷ Word (codes "Isset") ∷ Word (codes "EI") ∷ Mark 58 ∷ Integer (pos 1) ∷ [])
    (forms.Member (record { base = bases.This; dims = keys.NullsafeName (codes "p") ∷ []; last = finals.Query 0 modes.Isset (keys.ElemInt (pos 1)) }))
a_query = record {
  word = record {
    first = _;
    second = _;
    left = refl;
    right = record {
      first = _;
      second = _;
      left = (_, _, record { rest = _; word = (record { rest = _; word = refl; tokens = refl }, refl); tokens = refl }, refl, refl);
      right = record {
        rest = _;
        word = record {
          first = _;
          second = _;
          left = (refl, lit≤ tt);
          right = record { first = _; second = _; left = refl; right = (record { rest = _; word = refl; tokens = refl }, refl); tokens = refl };
          tokens = refl;
        };
        tokens = refl;
      };
      tokens = refl;
    };
    tokens = refl;
  };
  nullsafe = λ e. refl;
}

-- "main(){.try{RetC}.catch{L: Throw}}" behind ".function"
pub a_body : ABody (Word (codes "main") ∷ Mark 40 ∷ Mark 41 ∷ Mark 123 ∷ Directive (codes "try") ∷ Mark 123 ∷ Word (codes "RetC") ∷ Mark 125
    ∷ Directive (codes "catch") ∷ Mark 123 ∷ Word (codes "L") ∷ Mark 58 ∷ Word (codes "Throw") ∷ Mark 125 ∷ Mark 125 ∷ [])
    (record {
      name = codes "main";
      params = [];
      locals = [];
      iters = 0;
      stated = None;
      items = items.Try ∷ items.Position (record { asserts = []; code = forms.Plain (record { op = ops.RetC; imms = [] }) }) ∷ items.Catch
          ∷ items.Label (codes "L") ∷ items.Position (record { asserts = []; code = forms.Plain (record { op = ops.Throw; imms = [] }) }) ∷ items.End ∷ [];
    })
unfolding Rattle.hhbc_repo.specs.CodeSyntax.other_names
a_body = record {
  first = _;
  second = _;
  left = refl;
  right = record {
    first = _;
    second = _;
    left = refl;
    right = record {
      first = _;
      second = _;
      left = refl;
      right = record {
        rest = _;
        word = record {
          first = _;
          second = _;
          left = refl;
          right = record {
            first = _;
            second = _;
            left = inr (refl, refl);
            right = record {
              first = _;
              word = record {
                nested = nests.Try (nests.Position (record { asserts = []; code = forms.Plain (record { op = ops.RetC; imms = [] }) }) nests.Done)
                    (nests.Label (codes "L") (nests.Position (record { asserts = []; code = forms.Plain (record { op = ops.Throw; imms = [] }) }) nests.Done))
                    nests.Done;
                word = (
                  refl,
                  refl,
                  (
                    _,
                    _,
                    _,
                    (_, _, record { first = _; second = _; left = refl; right = record { rest = _; word = refl; tokens = refl }; tokens = refl }, refl, refl),
                    (refl, (_, (_, _, record { first = _; second = _; left = refl; right = record { rest = _; word = refl; tokens = refl }; tokens = refl }, refl, refl), refl)),
                    refl,
                    refl,
                  ),
                );
                parts = refl;
              };
              tokens = refl;
            };
            tokens = refl;
          };
          tokens = refl;
        };
        tokens = refl;
      };
      tokens = refl;
    };
    tokens = refl;
  };
  tokens = refl;
}
