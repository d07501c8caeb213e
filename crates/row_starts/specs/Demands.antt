-- What is promised of the page of row starts, as a statement (§3.9). proofs/Demands has the term. The contract of `line` says that the lines of the code are those
-- of the page.
use Rattle.std.specs.Prelude.{ℕ, ◌+◌, ◌*◌, ◌-◌, ◌≤◌, ◌<◌, ◌≡◌, get_or}
use Rattle.row_starts.specs.Page.{page}

abbrev pub PageRule : Type 0
PageRule = (n transitions : ℕ) → n < 128 → 1 ≤ transitions → transitions ≤ 32 → get_or page (32 * n + transitions - 1) 0 ≡ n * transitions
