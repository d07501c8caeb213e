-- Net and schedule are decoded up to one word more than the longest accepted one: words behind that change no answer (§15.7).
use Rattle.std.specs.Prelude.{Err, Ok}
use Rattle.refusal.specs.Refusal.{Verdict}
use Rattle.scan.proofs.Basics.{ℕ, ◌<◌, arith, ◌≡◌, refl, ◌∙◌, List, [], length, take}
use lib.Seq.{take_all}
use Rattle.scan.proofs.Tests.{by_less}
use Rattle.scan.specs.Scan.{tabulate}
use Rattle.refusal.specs.Verdict.{verdict_of}
use Rattle.refusal.specs.declared.Refusal.{Refusal}
use Rattle.refusal.proofs.Verdicts.{then-accepted, then-refused}
use Rattle.net.specs.Check.{net_reply}
use Rattle.net.proofs.Cut.{overlong}
use Rattle.sequential.specs.Petri.{petri_net}
use Rattle.sequential.specs.Check.{schedule_fault, schedule_reply}
use Rattle.sequential.proofs.Cut.{cut-reply-both}
use Rattle.graph.proofs.Readable.{known}
use Rattle.judge.specs.Answer.{check_answer, counts_of, CheckAnswer}
use Rattle.judge.proofs.Judged.{accepted-readable}
use Rattle.lending.specs.Call.{Core, output_fault, words_verdict}
use Rattle.schedule.specs.Calls.{check_core, run_core}
use Rattle.minimal.specs.Form.{form_core}
use Rattle.octets.specs.Words.{FileRead, all_words}
use Rattle.octets.specs.Bytes.{bytes_of, bytes_over}
use Rattle.octets.specs.declared.Reading.{Reading}
use Rattle.octets.proofs.Decoding.{read-as-cut, words_are}
use Rattle.firmware.specs.Parts.{Written}

-- ---- what is handed on

-- all of what is accepted
pub handed-whole : (net sheet : List ℕ) → schedule_reply net sheet ≡ Ok tt → (take 4228 net ≡ net) × (take 8195 sheet ≡ sheet)
unfolding schedule_reply
handed-whole net sheet h =
    let k = known net sheet (accepted-readable net sheet h) in
    (by_less 4228 (length net) (λ l. absurd (long l)) (λ l. take_all 4228 net l), take_all 8195 sheet (omega (arith, k.long, k.few_entries)))
  where
    long : 4228 < length net → ⊥
    long l =
        let e = overlong net (omega arith) in
        let a = (then-accepted (net_reply net) (verdict_of (schedule_fault (petri_net net) sheet)) h).0 in
        let z : ◌≡◌ {A = ℕ} 0 1 = cc in
        omega arith

pub decoded-words : (bytes out out' : List ℕ) (x : Reading) → FileRead bytes out x out' → take x.words out' ≡ take (length out) (all_words bytes)
decoded-words bytes out out' x d = words_are bytes out x.words out' d.words d.written ∙ (read-as-cut (length out) bytes).handed_on

-- ---- a call that asks the schedule check first

pub record Asks {Answer : Type 0} (core : List ℕ → List ℕ → Core Answer) : Type 0 where
  pub refuses : (net sheet : List ℕ) (r : Refusal) → schedule_reply net sheet ≡ Err r → (core net sheet).verdict ≡ Err r
  pub refused : (net sheet net' sheet' : List ℕ) (r : Refusal) → (core net sheet).refused r ≡ (core net' sheet').refused r

pub check-asks : Asks check_core
check-asks = record { refuses = λ net sheet r e. e; refused = λ net sheet net' sheet' r. refl }

pub run-asks : (firings : List ℕ) → Asks (λ net sheet. run_core net sheet firings)
run-asks firings = record { refuses = λ net sheet r e. then-refused _ _ r e ∙ e; refused = λ net sheet net' sheet' r. refl }

pub form-asks : Asks form_core
form-asks = record { refuses = λ net sheet r e. e; refused = λ net sheet net' sheet' r. refl }

-- ---- from the words decoded to all words

module _ {Answer : Type 0} where
  pub refused-written : {core : Core Answer} {out : List ℕ} {a : Answer} {r : Refusal} → core.verdict ≡ Err r → a ≡ core.refused r → Written core out a out
  unfolding words_verdict
  refused-written e h = record { answered = rw e h; written = rw e }

  refused-answer : {core : Core Answer} {out out' : List ℕ} {a : Answer} {r : Refusal} → core.verdict ≡ Err r → Written core out a out' → (a ≡ core.refused r) × (out' ≡ out)
  unfolding words_verdict
  refused-answer e d = (rw e at d.answered, rw e at d.written)

  pub written-cut : (core : List ℕ → List ℕ → Core Answer) → Asks core → (net sheet : List ℕ) {out out' : List ℕ} {a : Answer}
      → Written (core (take 4228 net) (take 8195 sheet)) out a out' → Written (core net sheet) out a out'
  written-cut core asks net sheet {out} {out'} {a} d = go (schedule_reply net sheet) refl
    where
      go : (v : Verdict) → schedule_reply net sheet ≡ v → Written (core net sheet) out a out'
      go (Ok tt) e = let (n, s) = handed-whole net sheet e in rw (n, s) at d
      go (Err r) e =
          let q = cut-reply-both 4228 8195 (omega arith) (omega arith) net sheet ∙ e in
          let (h, o) = refused-answer (asks.refuses _ _ r q) d in
          rw o (refused-written (asks.refuses net sheet r e) (h ∙ asks.refused _ _ net sheet r))

-- ---- the check's answer, which writes nothing

pub check-written : (net sheet : List ℕ) (a : CheckAnswer) → a ≡ check_answer (schedule_reply net sheet) (counts_of net sheet) → Written (check_core net sheet) [] a []
unfolding words_verdict output_fault bytes_over bytes_of tabulate
check-written net sheet a h = go (schedule_reply net sheet) refl
  where
    go : (v : Verdict) → schedule_reply net sheet ≡ v → Written (check_core net sheet) [] a []
    go (Ok tt) e = record { answered = rw e (rw e at h); written = rw e }
    go (Err r) e = refused-written e (rw e at h)
