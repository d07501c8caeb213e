-- What is promised of the functions that read a schedule without scratch, proved: each is a call that is lent no scratch and asks for none.
use Rattle.std.specs.Prelude.{Ok}
use Rattle.refusal.specs.Refusal.{Verdict}
use Rattle.scan.proofs.Basics.{ℕ, ◌≡◌, refl, sym, ◌∙◌, true, List, [], ◌∷◌, ◌++◌, length}
use mathlib.Core.Logic.Iff
use Rattle.refusal.specs.Checks.{Check}
use Rattle.refusal.proofs.Verdicts.{then_next}
use Rattle.refusal.proofs.Judges.{Judges, judges-found, judges-then, properly, pass-append}
use Rattle.net.specs.Check.{net_reply}
use Rattle.net.specs.Checks.{net_checks}
use Rattle.net.proofs.Checks.{net-judged}
use Rattle.sequential.specs.Petri.{petri_net}
use Rattle.sequential.specs.Checks.{word_checks, arc_word_checks}
use Rattle.sequential.specs.Check.{schedule_reply}
use Rattle.sequential.proofs.Words.{words-tell, arcs-tell}
use Rattle.sequential.proofs.Accepted.{schedule-judged, task-judged}
use Rattle.sequential.proofs.Bounds.{bounds-length}
use Rattle.graph.specs.Readable.{words_reply, arcs_reply}
use Rattle.judge.specs.Answer.{counts_of, check_answer, CheckAnswer}
use Rattle.lending.specs.Call.{CallDone}
use Rattle.lending.proofs.Judged.{Lawful}
use Rattle.lending.proofs.Done.{verdict-by-checks}
use Rattle.lending.proofs.Reading.{no-scratch, of_words, reading, reads-one, reads_two}
use Rattle.lending.proofs.Demands.{every-call-none, every-call-one, every-call-two, every-call-value}
use Rattle.schedule.specs.Calls.{check_core}
use Rattle.schedule.proofs.Following.{end-length}
use Rattle.schedule.proofs.Done.{check-words, check-law, bounds-law, fire-law, run-law}
use Rattle.replay.proofs.Done.{replay-law}
use Rattle.minimal.specs.Minimal.{minimal_form}
use Rattle.minimal.specs.Form.{read_core, plain_form}
use Rattle.minimal.proofs.Done.{form-law}
use Rattle.minimize.specs.Both.{both_core}
use Rattle.compare.proofs.Done.{compare-law}
use Rattle.mended.specs.Mend.{mended_words}
use Rattle.mended.specs.Changes.{changes}
use Rattle.mended.proofs.Done.{mend-law}
use Rattle.composed.specs.Sheet.{given_sheets, composed_sheet}
use Rattle.composed.proofs.Done.{compose-law}
use Rattle.trimmed.specs.Trim.{trimmed_words, kept_list}
use Rattle.trimmed.proofs.Done.{trim-law}
use Rattle.reaction.proofs.Judged.{reaction-law}
use Rattle.demands.specs.Reading.{EveryVerdict, plain_forms, read_checks, ReadingDemand}
use Rattle.demands.proofs.Replay.{rows_fit_lem}
use Rattle.demands.proofs.Reaction.{fits}

-- ---- a check that stands alone

alone : (v : Verdict) (checks : List Check) → Judges v checks → properly checks ≡ true → EveryVerdict checks v
alone v checks j p = record {
  replies = (v, tt, refl);
  one = λ a b left right c d. (c ∙ sym d, refl);
  by_numbers = λ a left c. rw c (verdict-by-checks v checks j p);
  keeps = λ a left c n. refl;
}

module _ (net sheet : List ℕ) where
  words-judged : Judges (words_reply net sheet) (read_checks net sheet)
  unfolding words_reply
  words-judged = judges-then (net_reply net) _ (net_checks net) (word_checks (petri_net net) sheet) (net-judged net) (λ p. judges-found _ _ (words-tell (petri_net net) sheet))

  arcs-judged : Judges (arcs_reply net sheet) (net_checks net ++ arc_word_checks (petri_net net) sheet)
  unfolding arcs_reply
  arcs-judged = judges-then (net_reply net) _ (net_checks net) (arc_word_checks (petri_net net) sheet) (net-judged net) (λ p. judges-found _ _ (arcs-tell (petri_net net) sheet))

  read-law : Lawful (read_core net sheet) plain_form (length (minimal_form net sheet) ∷ 0 ∷ 0 ∷ []) (read_checks net sheet)
  read-law = record { judged = words-judged; proper = refl; plain-accepted = refl; own-length = refl; plain-refused = λ r. refl }

  -- the check's answer is by its verdict
  check-back : {a : CheckAnswer} {s' : List ℕ} → CallDone 0 (check_core net sheet) [] [] a [] s' → a ≡ check_answer (schedule_reply net sheet) (counts_of net sheet)
  check-back d = (of_words d).reply ∙ sym (of_words (no-scratch (check-words net sheet _ refl))).reply

  -- with a net that is one
  own-judged : net_reply net ≡ Ok tt → Judges (words_reply net sheet) (word_checks (petri_net net) sheet)
  unfolding words_reply
  own-judged n = rw (then_next (net_reply net) _ n) (judges-found _ _ (words-tell (petri_net net) sheet))

module _ (net x y : List ℕ) where
  forms-law : Lawful (both_core net x y) plain_forms (length (minimal_form net x) ∷ length (minimal_form net y) ∷ 0 ∷ []) (read_checks net x ++ word_checks (petri_net net) y)
  forms-law = record {
    judged = judges-then (words_reply net x) (words_reply net y) (read_checks net x) (word_checks (petri_net net) y) (words-judged net x)
        (λ p. own-judged net y ((net-judged net).accepts.1 ((pass-append (net_checks net) (word_checks (petri_net net) x)).0 p).0));
    proper = refl;
    plain-accepted = refl;
    own-length = refl;
    plain-refused = λ r. refl;
  }

-- ---- all of them

pub reading-demand : ReadingDemand
reading-demand = record {
  words = λ net sheet. alone _ _ (words-judged net sheet) refl;
  arcs = λ net sheet. alone _ _ (arcs-judged net sheet) refl;
  verdict = λ net sheet. alone _ _ (schedule-judged net sheet) refl;
  task = λ net s sheet. alone _ _ (task-judged net s sheet) refl;
  check = λ net sheet. reading (λ a left e. no-scratch (check-words net sheet a e)) (λ a left s' d. check-back net sheet d) (every-call-none (check-law net sheet) refl);
  bounds = λ net sheet out. reads-one (every-call-one (bounds-law net sheet) refl (λ p. rw (bounds-length (petri_net net) sheet) Iff.rfl));
  step = λ net sheet w t. reading (λ a left d. no-scratch d) (λ a left s' d. of_words d) (every-call-value (fire-law net sheet w t) refl (λ r. refl));
  run = λ net sheet firings out. reads-one (every-call-one (run-law net sheet firings) refl (λ p. rw (end-length net firings) Iff.rfl));
  replay = λ net sheet log taken put. reads_two (every-call-two (replay-law net sheet log) refl (λ p. rows_fit_lem net log taken put));
  form_of = λ net sheet. (length (minimal_form net sheet), λ out. reads-one (every-call-one (read-law net sheet) refl (λ p. Iff.rfl)));
  form = λ net sheet. (length (minimal_form net sheet), λ out. reads-one (every-call-one (form-law net sheet) refl (λ p. Iff.rfl)));
  forms = λ net x y. (length (minimal_form net x), length (minimal_form net y), λ one two. reads_two (every-call-two (forms-law net x y) refl (λ p. Iff.rfl)));
  mend = λ net sheet. (length (mended_words net sheet), length (changes net sheet), λ out list. reads_two (every-call-two (mend-law net sheet) refl (λ p. Iff.rfl)));
  compare = λ net x y. (length (minimal_form net x), length (minimal_form net y), λ one two. reads_two (every-call-two (compare-law net x y) refl (λ p. Iff.rfl)));
  compose = λ net k a b c d. (
    length (composed_sheet (petri_net net) k (given_sheets k a b c d)),
    λ out. reads-one (every-call-one (compose-law net k (given_sheets k a b c d)) refl (λ p. Iff.rfl)),
  );
  trim = λ net sheet. (length (trimmed_words net sheet), length (kept_list net sheet), λ out list. reads_two (every-call-two (trim-law net sheet) refl (λ p. Iff.rfl)));
  reaction = λ net sheet durations out. reads-one (every-call-one (reaction-law net sheet durations) refl (fits net sheet durations out));
}
