-- Mending as an instance of what holds of every call: the checks of its words, what is known of words that pass, and how long its results are.
use Rattle.std.specs.Prelude.{Ok}
use Rattle.scan.proofs.Basics.{ℕ, ◌+◌, ◌*◌, ◌≤◌, ◌<◌, arith, ◌≡◌, refl, true, List, [], ◌∷◌, ◌++◌, length}
use native.Mathlib.Nat.{mul-le-mul}
use Rattle.refusal.specs.Limits.{most_entries}
use Rattle.refusal.proofs.Judges.{pass-append}
use Rattle.net.specs.Checks.{net_checks}
use Rattle.net.specs.Check.{net_reply}
use Rattle.net.proofs.Checks.{net-judged}
use Rattle.net.proofs.Laws.{sizes}
use Rattle.sequential.specs.Petri.{petri_net}
use Rattle.sequential.specs.Words.{graph}
use Rattle.sequential.specs.Checks.{arc_word_checks}
use Rattle.sequential.specs.Known.{ArcsHold}
use Rattle.sequential.proofs.Words.{arcs-hold}
use Rattle.sequential.proofs.Accepted.{sheet-schedule}
use Rattle.lending.proofs.Judged.{Lawful}
use Rattle.mended.specs.Counts.{counts_fit}
use Rattle.mended.specs.Checks.{arc_checks, mend_checks}
use Rattle.mended.specs.Mend.{mend_verdict, mended_words}
use Rattle.mended.specs.Changes.{changes}
use Rattle.mended.specs.Call.{lengths, mend_core, plain_mend}
use Rattle.mended.proofs.Mended.{ArcsPass}
use Rattle.mended.proofs.Exact.{mended, mended-passes, fit↔, mend-judged}
use Rattle.mended.proofs.Changes.{changes-short, mended-lists}

pub mend-law : (net sheet : List ℕ) → Lawful (mend_core net sheet) plain_mend ((lengths net sheet).sheet ∷ (lengths net sheet).list ∷ 0 ∷ []) (net_checks net ++ mend_checks (petri_net net) sheet)
mend-law net sheet = record {
  judged = mend-judged net sheet;
  proper = refl;
  plain-accepted = refl;
  own-length = refl;
  plain-refused = λ r. refl;
}

-- ---- what passed

pub record Passed (net sheet : List ℕ) : Type 0 where
  pub net_accepted : net_reply net ≡ Ok tt
  pub some_transition : 0 < (petri_net net).transitions
  pub some_place : 0 < (petri_net net).places
  pub words : ArcsHold (petri_net net) sheet
  pub arcs : ArcsPass (petri_net net) (graph (petri_net net) sheet)
  pub fit : counts_fit (petri_net net) (graph (petri_net net) sheet) ≡ true

module _ (net sheet : List ℕ) where
  pub passed : mend_verdict net sheet ≡ Ok tt → Passed net sheet
  passed h =
      let N = petri_net net in
      let (n, m) = (pass-append (net_checks net) (mend_checks N sheet)).0 ((mend-judged net sheet).accepts.0 h) in
      let a = (net-judged net).accepts.1 n in
      let z = sizes net a in
      let (v, (c, (b, (r, (q, (e, u)))))) = (pass-append (arc_word_checks N sheet) (arc_checks N sheet)).0 m in
      let w = arcs-hold N sheet v in
      let g : ArcsPass N (graph N sheet)
      = record { choices = λ n l. (c n l).1.0; root_awaits = (b 0 (omega arith)).0; reached = λ n l. (r n l).0; returns = λ n l. (q n l).0 } in
      record {
        net_accepted = a;
        some_transition = z.some_transition;
        some_place = z.some_place;
        words = w;
        arcs = g;
        fit = (fit↔ N z.some_transition z.some_place sheet w g).1 e;
      }

  module _ (k : Passed net sheet) where
    abbrev T : 0 < (petri_net net).transitions
    T = k.some_transition

    abbrev P : 0 < (petri_net net).places
    P = k.some_place

    -- ---- how long the results are

    pub mended-short : length (mended_words net sheet) ≤ 2 + 2 * most_entries
    unfolding mended_words
    mended-short =
        let s = ((sheet-schedule (petri_net net) (mended (petri_net net) sheet) T).0 (mended-passes (petri_net net) T P sheet k.words k.arcs k.fit)).0.arcs.shape in
        omega (arith, s.whole, s.few_entries)

    pub changes-few : length (changes net sheet) ≤ 1 + 2 * most_entries
    unfolding changes
    changes-few =
        let l = mended-lists (petri_net net) T P sheet k.words k.arcs k.fit in
        omega (arith, l.whole, changes-short (petri_net net) sheet, mul-le-mul k.words.shape.few_nodes (sizes net k.net_accepted).few_places)
