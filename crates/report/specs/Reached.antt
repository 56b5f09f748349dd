-- How far the count of a file has come: the numbers of the bytes s that were counted, laid end to end.
use Rattle.std.specs.Prelude.{ℕ, ◌≤◌, ◌≡◌, List, length}
use Rattle.paper.specs.Keys.{Key}
use Rattle.paper.specs.Grammar.{Tree}
use Rattle.paper.specs.Calls.{over}
use Rattle.paper.specs.Parts.{Part}
use Rattle.paper.specs.Counting.{whole_in, cut_in, Counts, counts_of}
use Rattle.keys.specs.Says.{keys_in}
use Rattle.trees.specs.Standing.{tree_at}
use Rattle.parts.specs.Rows.{parts_on}
use Rattle.reading.specs.Parted.{PassedParts}
use Rattle.report.specs.declared.course.Course.{Course}

-- what bytes are counted by: the keys of a list, the tree of a text, and its parts

pub record Rule : Type 0 where
  pub keys : List Key
  pub root : Tree
  pub parts : List Part

abbrev pub rule_of : (text list nodes rows : List ℕ) (n : ℕ) → PassedParts text list nodes rows n → Rule
rule_of text list nodes rows n p = record { keys = keys_in list; root = tree_at text nodes p.root; parts = parts_on text nodes rows n }

abbrev pub numbers_by : Rule → List ℕ → Counts
numbers_by rule s = counts_of rule.keys rule.root rule.parts s

-- the numbers of the parts stand over others, whose later ones stay
pub record Reaches (rule : Rule) (base s : List ℕ) (course : Course) (after : List ℕ) : Type 0 where
  pub room : length rule.parts ≤ length base
  pub whole : course.whole ≡ whole_in rule.keys s
  pub cut : course.cut ≡ cut_in rule.keys s
  pub numbers : after ≡ over (numbers_by rule s).parts base
  pub accepted : course.totals.accepted ≡ (numbers_by rule s).accepted
  pub violated : course.totals.violated ≡ (numbers_by rule s).violated
  pub refused : course.totals.refused ≡ (numbers_by rule s).refused

-- so much was counted by some text that passed, of the start of some file
pub record Begun (list nodes rows : List ℕ) (n : ℕ) (course : Course) (after : List ℕ) : Type 0 where
  pub text : List ℕ
  pub passed : PassedParts text list nodes rows n
  pub base : List ℕ
  pub start : List ℕ
  pub reaches : Reaches (rule_of text list nodes rows n passed) base start course after
