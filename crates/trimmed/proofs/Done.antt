-- Trimming as an instance of what holds of every call: the checks of its words.
use Rattle.scan.proofs.Basics.{ℕ, refl, List, [], ◌∷◌, ◌++◌}
use Rattle.refusal.proofs.Judges.{Judges, judges-then, judges-found}
use Rattle.net.specs.Checks.{net_checks}
use Rattle.net.proofs.Checks.{net-judged}
use Rattle.net.specs.Check.{net_reply}
use Rattle.sequential.specs.Petri.{petri_net}
use Rattle.sequential.specs.Checks.{word_checks}
use Rattle.sequential.proofs.Words.{words-tell}
use Rattle.graph.specs.Readable.{words_reply}
use Rattle.lending.proofs.Judged.{Lawful}
use Rattle.trimmed.specs.Call.{lengths, trim_core, plain_trim}

pub words-judged : (net sheet : List ℕ) → Judges (words_reply net sheet) (net_checks net ++ word_checks (petri_net net) sheet)
unfolding words_reply
words-judged net sheet =
    judges-then (net_reply net) _ (net_checks net) (word_checks (petri_net net) sheet) (net-judged net)
    (λ p. judges-found _ (word_checks (petri_net net) sheet) (words-tell (petri_net net) sheet))

pub trim-law : (net sheet : List ℕ) → Lawful (trim_core net sheet) plain_trim ((lengths net sheet).sheet ∷ (lengths net sheet).list ∷ 0 ∷ []) (net_checks net ++ word_checks (petri_net net) sheet)
trim-law net sheet = record {
  judged = words-judged net sheet;
  proper = refl;
  plain-accepted = refl;
  own-length = refl;
  plain-refused = λ r. refl;
}
