-- The number of a single firing: below 2,147,483,648 it is the target of the arc, from there on it tells the first check that fails, and never 19. What holds of every
-- call holds of it, and it does what the word call does with the node's own counts.
use Rattle.std.specs.Prelude.{Err, Ok}
use Rattle.refusal.specs.declared.Reason.TheVariants.{BrokenWord, NoSuchNode, NotOffered, SmallScratch}
use Rattle.schedule.specs.Plain.{FireAnswer}
use Rattle.scan.proofs.Basics.{ℕ, ◌+◌, ◌≤◌, ◌<◌, arith, ◌≡◌, refl, sym, ap, ◌∙◌, inl, inr, ⊎_elim, some, List, [], ◌∷◌, ◌++◌, length, get_or}
use Rattle.scan.proofs.Tests.{by_less}
use Rattle.scan.proofs.Tabulate.{tabulate-at}
use Rattle.scan.proofs.Front.{cleared-whole}
use Rattle.refusal.specs.Limits.{scratch_limit}
use Rattle.refusal.specs.Refusal.{refusal, Verdict, refusal_number}
use Rattle.refusal.specs.declared.Position.TheVariants.{Nothing}
use Rattle.refusal.specs.Checks.{Check, once, FirstFails}
use Rattle.refusal.specs.declared.Refusal.{Refusal}
use Rattle.refusal.proofs.Checks.{Tells}
use Rattle.refusal.proofs.Judges.{Judges, judges-found, judges-then, pass-append, without-spared, spared-never}
use Rattle.refusal.proofs.Verdicts.{accepted-refused}
use Rattle.net.specs.Checks.{net_checks}
use Rattle.sequential.specs.Petri.{petri_net}
use Rattle.sequential.specs.Words.{node_count, count_at, graph}
use Rattle.sequential.specs.Schedule.{Offers}
use Rattle.sequential.specs.Check.{schedule_reply}
use Rattle.sequential.specs.Checks.{sheet_checks}
use Rattle.sequential.proofs.Accepted.{schedule-judged, closed}
use Rattle.graph.specs.Rows.{marking_row}
use Rattle.graph.proofs.Rows.{marking-right}
use Rattle.graph.proofs.Readable.{known}
use Rattle.judge.proofs.Judged.{accepted-readable}
use Rattle.lending.specs.Call.{Core, output_fault, words_verdict, call_verdict, answer_of}
use Rattle.lending.proofs.Lent.{scratch-kept, scratch-cleared}
use Rattle.lending.proofs.Laws.{call-enough}
use Rattle.lending.proofs.Judged.{words-judged-none, call-judged}
use Rattle.schedule.specs.Firing.{step_fault, follows}
use Rattle.schedule.specs.declared.Walker.{Walker}
use Rattle.schedule.proofs.Walkers.{step-tells}
use Rattle.octets.specs.Words.{all_words}
use Rattle.firmware.specs.Bytes.{scratch_bytes, broken_fault, bytes_verdict, bytes_answer}
use Rattle.firmware.specs.Calls.{own_walker, own_core, fire_bytes, one_number, BytesFired}
use Rattle.firmware.specs.Demands.{Whole, decoded_checks, firing_checks, FiresByNumber, EveryFiring, FiresAsWords}
use Rattle.firmware.proofs.Early.{answer-same}
use Rattle.firmware.proofs.Judged.{broken-judged}
use Rattle.firmware.proofs.WordCalls.{words-verdict}
use Rattle.firmware.proofs.Forms.{accepted-passes}

-- ---- of words: with the node's own counts 19 has nothing to find

module _ (net sheet : List ℕ) (n t : ℕ) where
  abbrev own_checks : List Check
  own_checks = once (n < node_count sheet) NoSuchNode ∷ once (Offers (petri_net net) (graph (petri_net net) sheet) n t) NotOffered ∷ []

  own-counts : schedule_reply net sheet ≡ Ok tt → n < node_count sheet → (p : ℕ) → p < 32 → get_or (marking_row net sheet n) p 0 ≡ count_at (petri_net net) sheet n p
  own-counts h low p l =
      ap (λ (y : List ℕ). get_or y p 0) (marking-right net sheet (accepted-readable net sheet h).arcs n low) ∙ tabulate-at (count_at (petri_net net) sheet n) 0 32 p l

  own-tells : schedule_reply net sheet ≡ Ok tt → Tells (step_fault (petri_net net) sheet (own_walker net sheet n) t) own_checks
  own-tells h =
      let s = step-tells (petri_net net) sheet (own_walker net sheet n) t in
      record {
        passes = (
          λ e. let (low, (each, (o, u))) = s.passes.0 e in (low, (o, tt)),
          λ (low, (o, u)). s.passes.1 (low, (λ p l. (own-counts h low p l, tt), (o, tt))),
        );
        fails = λ r. (
          λ e. ⊎_elim (λ f. inl f)
              (λ (low, g). ⊎_elim (λ k. absurd (⊎_elim (λ (x, q). x (own-counts h low k.index k.within)) (λ (x, b). b) k.there)) (λ (pass, u). inr (low, u)) g)
              ((s.fails r).0 e),
          ⊎_elim (λ f. (s.fails r).1 (inl f)) (λ (low, u). (s.fails r).1 (inr (low, inr (λ p l. (own-counts h low p l, tt), u)))),
        );
      }

  own-judged : Judges (own_core net sheet n t).verdict ((net_checks net ++ sheet_checks (petri_net net) sheet) ++ own_checks)
  own-judged =
      judges-then _ _ (net_checks net ++ sheet_checks (petri_net net) sheet) own_checks (schedule-judged net sheet)
      (λ p. judges-found _ _ (own-tells ((schedule-judged net sheet).accepts.1 p)))

  -- the target of an arc is a node
  target_low : schedule_reply net sheet ≡ Ok tt → n < node_count sheet → (m : ℕ) → (graph (petri_net net) sheet).arc n t ≡ some m → m < 128
  target_low h low m e =
      let l = (closed net sheet h).lands n t m low e in
      let k = (known net sheet (accepted-readable net sheet h)).few_nodes in
      omega arith

  target_told : (m : ℕ) → (graph (petri_net net) sheet).arc n t ≡ some m → (follows (petri_net net) sheet (own_walker net sheet n) t).node ≡ m
  unfolding follows
  target_told m e = rw e

-- ---- of bytes

module _ (net sheet : List ℕ) (n t : ℕ) (scratch : List ℕ) where
  -- what is asked after 31, and after 21
  abbrev own_words : List Check
  own_words = decoded_checks net sheet ++ own_checks (all_words net) (all_words sheet) n t

  abbrev past_scratch : List Check
  past_scratch = once (Whole (length net) (length sheet) 0) BrokenWord ∷ own_words

  fire-judged : Judges (bytes_verdict (fire_bytes net sheet n t) [] (length scratch)) (firing_checks net sheet n t scratch)
  unfolding bytes_verdict
  fire-judged =
      call-judged (fire_bytes net sheet n t) (all_words [] ∷ []) scratch_bytes scratch
      (words-judged-none (fire_bytes net sheet n t) (all_words [] ∷ [])
      (judges-then (broken_fault (length net) (length sheet) 0) _ (once (Whole (length net) (length sheet) 0) BrokenWord ∷ []) _ (broken-judged (length net) (length sheet) 0)
      (λ p. own-judged (all_words net) (all_words sheet) n t)) refl)

  -- the refusals of number 21, and those of number 31
  by-21 : (x : Refusal) → FirstFails (firing_checks net sheet n t scratch) x → refusal_number x ≡ 21 → length scratch < scratch_bytes
  by-21 x f e =
      ⊎_elim (λ (no_room, q). by_less (length scratch) scratch_bytes (λ l. l) (λ l. absurd (no_room l)))
      (λ (l, g). absurd (spared-never 21 past_scratch x (without-spared 21 past_scratch refl) g e)) f

  by-31 : (x : Refusal) → FirstFails (firing_checks net sheet n t scratch) x → refusal_number x ≡ 31 → (scratch_bytes ≤ length scratch) × (Whole (length net) (length sheet) 0 → ⊥)
  by-31 x f e =
      ⊎_elim (λ (no_room, q). let k : refusal_number x ≡ 21 = ap refusal_number q in absurd (omega arith))
      (λ (l, g). ⊎_elim (λ (cut, q). (l, cut)) (λ (w, h). absurd (spared-never 31 own_words x (without-spared 31 own_words refl) h e)) g) f

  pub fires-by-number : (r : ℕ) (scratch' : List ℕ) → BytesFired net sheet n t scratch r scratch' → FiresByNumber net sheet n t scratch r
  fires-by-number r scratch' d = go (bytes_verdict (fire_bytes net sheet n t) [] (length scratch)) refl
    where
      this : (x : Refusal) → bytes_verdict (fire_bytes net sheet n t) [] (length scratch) ≡ Err x → r ≡ 2147483648 + refusal_number x
          → (y : Refusal) → FirstFails (firing_checks net sheet n t scratch) y → r ≡ 2147483648 + refusal_number y
      this x e q y f = let same : x ≡ y = cc (e, (fire-judged.refuses y).1 f) in q ∙ ap (λ (z : Refusal). 2147483648 + refusal_number z) same

      go : (v : Verdict) → bytes_verdict (fire_bytes net sheet n t) [] (length scratch) ≡ v → FiresByNumber net sheet n t scratch r
      go (Ok tt) e =
          let (a, (w, b)) = fire-judged.accepts.0 e in
          let (words, (low, ((m, arc), u))) = (pass-append (decoded_checks net sheet) (own_checks (all_words net) (all_words sheet) n t)).0 b in
          let h = (schedule-judged (all_words net) (all_words sheet)).accepts.1 words in
          let q : r ≡ m = d.returned ∙ rw e (target_told (all_words net) (all_words sheet) n t m arc) in
          let l = target_low (all_words net) (all_words sheet) n t h low m arc in
          record {
            fires = (λ k. (a, (w, b)), λ k. omega arith);
            leads = λ k. rw q arc;
            named = λ k. absurd (omega arith);
            this = λ x f. accepted-refused _ x e ((fire-judged.refuses x).1 f);
            small = (λ k. absurd (omega arith), λ k. absurd (omega arith));
            broken = (λ k. absurd (omega arith), λ (k, cut). absurd (cut w));
            never_19 = λ k. omega arith;
          }
      go (Err x) e =
          let q : r ≡ 2147483648 + refusal_number x = d.returned ∙ rw e in
          let f = (fire-judged.refuses x).0 e in
          record {
            fires = (λ k. absurd (omega arith), λ p. accepted-refused _ x (fire-judged.accepts.1 p) e);
            leads = λ k. absurd (omega arith);
            named = λ k. (x, f, q);
            this = this x e q;
            small = (λ k. by-21 x f (omega arith), λ k. this x e q (refusal SmallScratch Nothing) (inl (λ l. omega arith, refl)));
            broken = (λ k. by-31 x f (omega arith), λ (k, cut). this x e q (refusal BrokenWord Nothing) (inr (k, inl (cut, refl))));
            never_19 = λ k. spared-never 19 (firing_checks net sheet n t scratch) x (without-spared 19 (firing_checks net sheet n t scratch) refl) f (omega arith);
          }

-- ---- as every call

pub every-firing : (net sheet : List ℕ) (n t : ℕ) → EveryFiring net sheet n t
every-firing net sheet n t = record {
  replies = λ s. (_, _, record { returned = refl; scratch_after = refl });
  one = λ s₁ s₂ r₁ r₂ s₁' s₂' e c d. c.returned ∙ ap (λ (lent : ℕ). one_number (bytes_answer (fire_bytes net sheet n t) [] lent)) e ∙ sym d.returned;
  kept = λ s r s' d l. d.scratch_after ∙ scratch-kept scratch_bytes s l;
  cleared = λ s r s' d l. d.scratch_after ∙ scratch-cleared scratch_bytes s l ∙ cleared-whole scratch_bytes s l;
}

-- ---- as the word call

module _ (net sheet : List ℕ) (n t : ℕ) where
  abbrev core : Core (FireAnswer × Walker)
  core = own_core (all_words net) (all_words sheet) n t

  same_answer : (lent lentWords : ℕ) → Whole (length net) (length sheet) 0 → scratch_bytes ≤ lent → scratch_limit ≤ lentWords
      → bytes_answer (fire_bytes net sheet n t) [] lent ≡ answer_of core (call_verdict scratch_limit core [] lentWords)
  unfolding words_verdict output_fault
  same_answer lent lentWords w l m =
      ap (answer_of (fire_bytes net sheet n t)) (words-verdict core (length net) (length sheet) 0 [] lent w l)
      ∙ answer-same core (broken_fault (length net) (length sheet) 0) (words_verdict core (all_words [] ∷ []))
      ∙ ap (answer_of core) (sym (call-enough core [] scratch_limit lentWords m))

  pub fires-as-words : FiresAsWords net sheet n t
  fires-as-words = record {
    same = λ s scratch s' scratch' r answer next w ls lw d c. d.returned ∙ ap one_number (same_answer (length s) (length scratch) w ls lw ∙ sym c.reply);
    node = refl;
    counts = λ a low p l. own-counts (all_words net) (all_words sheet) n t (accepted-passes net sheet a).1 low p l;
  }
