-- The bytes of a tree where a rung is asked for, from those of its operands: a leaf and a prefix operator never need parentheses, and
-- those of an operator stand around its two operands and its sign.
use Prim.Native.Nat.{ℕ, ◌≤◌}
use native.Mathlib.Omega.{arith}
use mathlib.Core.Path.{◌≡◌, refl}
use mathlib.Core.Bool.{Bool, true, false}
use mathlib.Core.List.{List, ◌++◌, append-nil}
use lib.Dec.{ltb}
use borrow.Author.Tests.{le-ltb}
use Rattle.paper.specs.Grammar as G
use Rattle.paper.specs.Grammar.{Tree}
use Rattle.paper.specs.Print.{tightest, rung, looser, enclosed, prefix_bytes, print}
use Rattle.trees.specs.declared.node.Leaf.{Leaf}
use Rattle.trees.specs.declared.node.Leaf.TheVariants.{Truth, Number, Key, Field, Attribute}
use Rattle.trees.specs.declared.node.Operator.{Operator}
use Rattle.trees.specs.declared.node.Operator.TheVariants.{Joins, Compares}
use Rattle.trees.specs.declared.node.Prefix.{Prefix}
use Rattle.trees.specs.Standing.{leaf_on, operator_on, prefix_meant}
use Rattle.printing.specs.declared.signs.Rung.{Rung}
use Rattle.printing.specs.declared.signs.Rung.TheVariants as R
use Rattle.printing.specs.Writing.{rung_meant, operator_bytes, rung_between, left_between, right_between, open_bytes, close_bytes}

abbrev pub shown : ℕ → Tree → List ℕ
shown k t = enclosed (looser k t) (print t)

-- no rung is tighter
low : (k : Rung) → rung_meant k ≤ tightest
low R.Sequel = omega arith
low R.Implies = omega arith
low R.Or = omega arith
low R.And = omega arith
low R.Comparison = omega arith
low R.Tightest = omega arith

tight_shown : (k : Rung) (t : Tree) → rung t ≡ tightest → print t ≡ shown (rung_meant k) t
tight_shown k t e = rw (e, le-ltb tightest (rung_meant k) (low k))

leaf_rung : (text : List ℕ) (at : ℕ) (l : Leaf) → rung (leaf_on text at l) ≡ tightest
leaf_rung text at (Truth b) = refl
leaf_rung text at (Number base a b c d) = refl
leaf_rung text at (Key w) = refl
leaf_rung text at (Field w f) = refl
leaf_rung text at (Attribute f) = refl

pub leaf_shown : (k : Rung) (text : List ℕ) (at : ℕ) (l : Leaf) → print (leaf_on text at l) ≡ shown (rung_meant k) (leaf_on text at l)
leaf_shown k text at l = tight_shown k (leaf_on text at l) (leaf_rung text at l)

pub prefix_shown : (k : Rung) (at : ℕ) (o : Prefix) (t : Tree)
    → prefix_bytes (prefix_meant o) ++ shown tightest t ≡ shown (rung_meant k) (G.prefixed at (prefix_meant o) t)
unfolding print
prefix_shown k at o t = tight_shown k (G.prefixed at (prefix_meant o) t) refl

pieces : (b : Bool) (l m r : List ℕ) → open_bytes b ++ l ++ m ++ r ++ close_bytes b ≡ enclosed b (l ++ m ++ r)
pieces true l m r = refl
pieces false l m r = append-nil (l ++ m ++ r)

around : (k at : ℕ) (o : Operator) (l r : Tree)
    → open_bytes (ltb (rung_between o) k) ++ shown (left_between o) l ++ operator_bytes o ++ shown (right_between o) r ++ close_bytes (ltb (rung_between o) k)
    ≡ shown k (operator_on at o l r)
unfolding print
around k at (Joins o) l r =
    pieces (ltb (rung_between (Joins o)) k) (shown (left_between (Joins o)) l) (operator_bytes (Joins o)) (shown (right_between (Joins o)) r)
around k at (Compares c) l r = pieces (ltb (rung_between (Compares c)) k) (shown tightest l) (operator_bytes (Compares c)) (shown tightest r)

-- with the rungs as they were told
pub operator_shown : (k at : ℕ) (o : Operator) (l r : Tree) {needed : Bool} {before after : ℕ}
    → needed ≡ ltb (rung_between o) k → before ≡ left_between o → after ≡ right_between o
    → open_bytes needed ++ shown before l ++ operator_bytes o ++ shown after r ++ close_bytes needed ≡ shown k (operator_on at o l r)
operator_shown k at o l r e f g = rw (e, f, g) (around k at o l r)
