-- The promises of the calls over bytes, proved.
use Rattle.refusal.specs.declared.Reason.TheVariants.{BrokenWord, SmallOutput}
use Rattle.scan.proofs.Basics.{ℕ, ◌/◌, ◌≤◌, arith, refl, List, [], ◌∷◌, ◌++◌, length}
use Rattle.refusal.specs.Checks.{once}
use Rattle.refusal.proofs.Judges.{Judges}
use Rattle.sequential.specs.Petri.{petri_net}
use Rattle.lending.specs.Call.{words_verdict}
use Rattle.lending.proofs.Judged.{words-judged}
use Rattle.schedule.specs.Walker.{run_checks}
use Rattle.schedule.specs.Firing.{end_counts}
use Rattle.schedule.proofs.Done.{check-law, run-law}
use Rattle.schedule.proofs.Following.{end-length}
use Rattle.minimal.specs.Minimal.{minimal_form}
use Rattle.minimal.proofs.Done.{form-law}
use Rattle.octets.specs.Words.{all_words}
use Rattle.firmware.specs.Calls.{run_bytes}
use Rattle.firmware.specs.Demands.{Whole, decoded_checks, BytesDemand}
use Rattle.firmware.proofs.Judged.{bytes-law, every-bytes}
use Rattle.firmware.proofs.WordCalls.{as-words, unread}
use Rattle.firmware.proofs.Fires.{fires-by-number, every-firing, fires-as-words}
use Rattle.firmware.proofs.Forms.{room-bytes, form-judged, check-judged, made-accepted, made-lists, forms-same, form-there}

run-judged : (net sheet firings out : List ℕ) → Judges (words_verdict (run_bytes net sheet firings) (all_words out ∷ []))
    (once (Whole (length net) (length sheet) (length firings)) BrokenWord
    ∷ ((decoded_checks net sheet ++ run_checks (petri_net (all_words net)) (all_words sheet) (all_words firings)) ++ (once ((petri_net (all_words net)).places ≤ length out / 4) SmallOutput ∷ [])))
run-judged net sheet firings out =
    words-judged (run_bytes net sheet firings) (all_words out ∷ []) (bytes-law (length net) (length sheet) (length firings) (run-law (all_words net) (all_words sheet) (all_words firings))).judged
    (λ p. let e = end-length (all_words net) (all_words firings) in
    let (f, g) = room-bytes (end_counts (all_words net) (all_words firings)) out in (λ l. f (omega arith), λ r. omega (arith, g r)))

pub bytes-demand : BytesDemand
bytes-demand = record {
  check = λ net sheet. every-bytes (length net) (length sheet) 0 [] (check-law (all_words net) (all_words sheet)) (check-judged net sheet) refl;
  run = λ net sheet firings out. every-bytes (length net) (length sheet) (length firings) out (run-law (all_words net) (all_words sheet) (all_words firings)) (run-judged net sheet firings out) refl;
  short_form = λ net sheet. (
    length (minimal_form (all_words net) (all_words sheet)),
    λ out. every-bytes (length net) (length sheet) 0 out (form-law (all_words net) (all_words sheet)) (form-judged net sheet out) refl,
  );
  check_as_words = λ net sheet. as-words (length net) (length sheet) 0 (check-law (all_words net) (all_words sheet));
  run_as_words = λ net sheet firings. as-words (length net) (length sheet) (length firings) (run-law (all_words net) (all_words sheet) (all_words firings));
  form_as_words = λ net sheet. as-words (length net) (length sheet) 0 (form-law (all_words net) (all_words sheet));
  run_unread = λ net sheet firings. unread (length net) (length sheet) (length firings) (run-law (all_words net) (all_words sheet) (all_words firings));
  form_unread = λ net sheet. unread (length net) (length sheet) 0 (form-law (all_words net) (all_words sheet));
  every_fire = every-firing;
  fire_as_words = fires-as-words;
  fire = λ net sheet n t scratch r scratch' d. fires-by-number net sheet n t scratch r scratch' d;
  equal = λ net x y hx hy a b. forms-same net x y a b;
  accepted = λ net sheet h c. made-accepted net sheet c;
  same_lists = λ net sheet h c. made-lists net sheet c;
  there_is = form-there;
}
