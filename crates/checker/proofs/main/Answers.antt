-- `checker::main` lends buffers that are long enough for all that is read and printed.
use Rattle.std.proofs.Common.{arith}
use Rattle.checker.proofs.main.Goals as goal

pub report-k-requires-clause-buffers : goal.report-k-requires-clause-buffers
report-k-requires-clause-buffers c =
    record {
      net_bytes = omega arith;
      sheet_bytes = omega arith;
      net_words = omega arith;
      sheet_words = omega arith;
      form_words = omega arith;
      text_bytes = omega arith;
    }
