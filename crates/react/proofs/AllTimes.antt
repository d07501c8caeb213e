-- The table of all nodes' times, node by node: nothing is left begun in the recursion's table.
use Rattle.scan.proofs.Basics.{ℕ, ◌≤◌, ◌<◌, arith, ◌≡◌, List, length, get_or, replicate, length-replicate}
use Rattle.sequential.specs.Words.{node_count}
use Rattle.reaction.specs.Memo.{Told}
use Rattle.reaction.specs.Known.{Passed}
use Rattle.react.specs.declared.case.Case.{Case}
use Rattle.react.specs.Rows.{Mapped}
use Rattle.react.specs.Cases.{time_of}
use Rattle.react.specs.Times.{depth_of}
use Rattle.react.proofs.LoopMarks.{zero-at}

pub record Filling (net sheet words starts : List ℕ) (case : Case) (nodes : ℕ) (memo times : List ℕ) (n : ℕ) : Type 0 where
  pub mapped : Mapped net sheet starts
  pub passed : Passed net sheet words
  pub size : nodes ≡ node_count sheet
  pub long : length memo ≡ 128
  pub told : Told (time_of net sheet words case) (depth_of net sheet words) (node_count sheet) memo
  pub idle : (m : ℕ) → m < node_count sheet → get_or memo m 0 ≡ 1 → ⊥
  pub bound : n ≤ nodes
  pub wide : length times ≡ 128
  pub stored : (m : ℕ) → m < n → get_or times m 0 ≡ time_of net sheet words case m

pub filling-start : {net sheet words starts : List ℕ} {case : Case} {nodes : ℕ} {times : List ℕ} → Mapped net sheet starts → Passed net sheet words → nodes ≡ node_count sheet
    → length times ≡ 128 → Filling net sheet words starts case nodes (replicate 128 0) times 0
filling-start m p s e = record {
  mapped = m;
  passed = p;
  size = s;
  long = length-replicate {A = ℕ} 128 0;
  told = λ m l h. absurd (clash m h);
  idle = λ m l h. let z = zero-at 128 m in omega arith;
  bound = omega arith;
  wide = e;
  stored = λ m l. absurd (omega arith);
}
  where
    clash : (m : ℕ) → 2 ≤ get_or (replicate 128 0) m 0 → ⊥
    clash m h = let z = zero-at 128 m in omega arith
