-- From the stages of a comparison to its answer: the refusal of text and list, then that of the blocks, or whether they fit. And what the scratch of
-- its codes must hold: two instructions for each node, and two more.
use Prim.Native.Nat.{ℕ, ◌+◌, ◌-◌, ◌*◌, ◌≤◌}
use native.Mathlib.Omega.{arith}
use mathlib.Core.Path.{◌≡◌}
use mathlib.Core.List.{List}
use Rattle.paper.specs.Answers.{ok, refused, Input}
use Rattle.paper.specs.Code.{instruction_size}
use Rattle.paper.specs.Loading.{loaded}
use Rattle.paper.specs.Calls.{restriction}
use Rattle.paper.specs.Comparing.{records_from, fits, compare_answer}
use Rattle.paper.proofs.CodeLength.{code_counted, few_beside_nodes}
use Rattle.keys.specs.Says.{keys_in}
use Rattle.trees.specs.Standing.{tree_at}
use Rattle.parts.specs.Rows.{part_at, each}
use Rattle.parts.proofs.Stored.{each_length}
use Rattle.reading.specs.Parted.{PassedParts}
use Rattle.reading.proofs.Stages.{root_known}
use Rattle.comparing.specs.Scratch.{code_at, size_all}
use Rattle.comparing.proofs.Sizes.{row_codes, rows_size}
use Rattle.machine.proofs.Loaded.{loaded_count}
use Rattle.valve.specs.Scratch.{per_node}
use Rattle.valve.specs.Divided.{fits_parts}

module _ (text list blocks : List ℕ) where
  pub text_refused : {k : ℕ} {i : Input} {at : ℕ} → restriction text list ≡ refused k i at → refused k i at ≡ compare_answer text list blocks
  unfolding compare_answer
  text_refused e = rw e

  module _ (nodes rows : List ℕ) (n : ℕ) (p : PassedParts text list nodes rows n) where
    pub blocks_refused : {k : ℕ} {i : Input} {at : ℕ} → loaded (keys_in list) blocks ≡ refused k i at → refused k i at ≡ compare_answer text list blocks
    unfolding compare_answer
    blocks_refused e = rw (p.rooted.passed, p.parted.are, e)

    pub compared : (count : ℕ) → loaded (keys_in list) blocks ≡ ok count → ok (fits_parts text list nodes rows n blocks count) ≡ compare_answer text list blocks
    unfolding compare_answer
    compared count e =
        let total = loaded_count (keys_in list) blocks count e in
        let many = each_length (part_at text nodes rows) 0 n in
        rw (p.rooted.passed, p.parted.are, e, many, total)

-- by the codes of the rows
pub by_rows : (text list nodes rows : List ℕ) (n : ℕ) (blocks : List ℕ) (count : ℕ)
    → fits (n - 1) (each (code_at text list nodes rows) 0 n) (records_from blocks 0 count) ≡ fits_parts text list nodes rows n blocks count
by_rows text list nodes rows n blocks count = rw (row_codes text list nodes rows n)

-- a scratch that is large enough
module _ (text list nodes rows : List ℕ) (n : ℕ) (p : PassedParts text list nodes rows n) where
  abbrev root : ℕ
  root = p.root

  codes_by_nodes : size_all (each (code_at text list nodes rows) 0 n) ≤ 2 * (root + 1) + 2
  codes_by_nodes =
      let r = p.rooted in
      let known = root_known text list nodes root r in
      let t = tree_at text nodes root in
      omega (
        arith,
        code_counted (keys_in list) t known.type known.typed,
        few_beside_nodes (keys_in list) t,
        r.typed.count,
        rows_size text list nodes rows n t r.typed.read p.parted.are,
      )

  pub codes_room : (most : ℕ) → per_node * (root + 1) + per_node ≤ most → instruction_size * size_all (each (code_at text list nodes rows) 0 n) ≤ most
  codes_room most h = omega (arith, codes_by_nodes, h)
