-- Demand 3 over bytes: what a call wrote are the bytes of the minimal form, which are read again as its words.
use Rattle.std.specs.Prelude.{Ok}
use Rattle.refusal.specs.declared.Reason.TheVariants.{BrokenWord, SmallOutput}
use Rattle.scan.proofs.Basics.{ℕ, ◌+◌, ◌*◌, ◌/◌, ◌-◌, ◌≤◌, ◌<◌, arith, ◌≡◌, refl, sym, ap, ◌∙◌, ◌↔◌, List, [], ◌∷◌, ◌++◌, length, get_or}
use lib.ListN.{get_or-append}
use lib.Seq.{ext_get_or, get_or-take, take-append_seam}
use Rattle.scan.proofs.Tests.{by_less}
use Rattle.automaton.specs.Automaton.{SameLists}
use Rattle.table.specs.Table.{key_at, value_at}
use Rattle.refusal.specs.Checks.{once}
use Rattle.refusal.proofs.Judges.{Judges, pass-append}
use Rattle.sequential.specs.Petri.{petri_net}
use Rattle.sequential.specs.Words.{entry_count, entry_key, entry_value, arc_keys, key_limit}
use Rattle.sequential.specs.Check.{schedule_reply}
use Rattle.sequential.proofs.Accepted.{schedule-judged}
use Rattle.graph.specs.Readable.{Readable}
use Rattle.graph.proofs.Readable.{known}
use Rattle.judge.proofs.Judged.{accepted-readable}
use Rattle.lending.specs.Call.{words_verdict}
use Rattle.lending.proofs.Lent.{Room, room-one}
use Rattle.lending.proofs.Judged.{words-judged, words-judged-none}
use Rattle.schedule.proofs.Done.{check-law}
use Rattle.minimal.specs.Minimal.{minimal_form}
use Rattle.minimal.proofs.Done.{form-law}
use Rattle.minimal.proofs.Minimal.{form-accepted, form-lists, form-short, forms-equal}
use Rattle.octets.specs.Words.{all_words}
use Rattle.octets.specs.Bytes.{bytes_of, bytes_over}
use Rattle.octets.proofs.Decoding.{words_count}
use Rattle.octets.proofs.Writing.{bytes-length, byte-there, number-at, words_back}
use Rattle.firmware.specs.Bytes.{scratch_bytes, reply_bytes}
use Rattle.firmware.specs.Calls.{check_bytes, form_bytes}
use Rattle.firmware.specs.Demands.{Whole, decoded_checks, BytesAccepted, AlwaysAccepted, BytesForm, size, made, SameBytes, bytes_said}
use Rattle.firmware.proofs.Judged.{bytes-law, every-bytes, zero-passes, passes-zero, zero-written}

-- ---- the words of what is accepted are below 2 to the power of 32

module _ (net sheet : List ℕ) (h : schedule_reply net sheet ≡ Ok tt) where
  abbrev readable : Readable net sheet
  readable = accepted-readable net sheet h

  key-word : (i : ℕ) → i < entry_count sheet → get_or sheet (2 + i) 0 < 4294967296
  unfolding key_at key_limit
  key-word i l = omega (arith, (known net sheet readable).few_keys, (readable.arcs.holds.keys i l).low)

  value-word : (i : ℕ) → i < entry_count sheet → get_or sheet (2 + entry_count sheet + i) 0 < 4294967296
  unfolding entry_value value_at
  value-word i l =
      let v = readable.values i l in
      let z = (known net sheet readable).few_nodes in
      by_less (entry_key sheet i) (arc_keys (petri_net net) sheet) (λ m. let t = v.target m in omega arith) (λ m. let t = v.most m in omega arith)

  accepted-words : (i : ℕ) → i < length sheet → get_or sheet i 0 < 4294967296
  accepted-words i l =
      let z = known net sheet readable in
      by_less i 2
      (λ a. by_less i 1 (λ b. let q : i ≡ 0 = omega arith in rw q (omega (arith, z.few_nodes))) (λ b. let q : i ≡ 1 = omega arith in rw q (omega (arith, z.few_entries))))
      (λ a. by_less i (2 + entry_count sheet)
      (λ b. let q : i ≡ 2 + (i - 2) = omega arith in rw q (key-word (i - 2) (omega arith)))
      (λ b. let q : i ≡ 2 + entry_count sheet + (i - (2 + entry_count sheet)) = omega arith in rw q (value-word (i - (2 + entry_count sheet)) (omega (arith, z.long)))))

-- ---- how the calls are judged

-- room by whole words
pub room-bytes : (result out : List ℕ) → (length result ≤ length out / 4) ↔ Room (result ∷ []) (all_words out ∷ [])
room-bytes result out = (λ l. (room-one result (all_words out)).0 (omega (arith, words_count out)), λ r. omega (arith, words_count out, r 0))

module _ (net sheet : List ℕ) where
  pub form-judged : (out : List ℕ) → Judges (words_verdict (form_bytes net sheet) (all_words out ∷ []))
      (once (Whole (length net) (length sheet) 0) BrokenWord ∷ (decoded_checks net sheet ++ (once (length (minimal_form (all_words net) (all_words sheet)) ≤ length out / 4) SmallOutput ∷ [])))
  form-judged out =
      words-judged (form_bytes net sheet) (all_words out ∷ []) (bytes-law (length net) (length sheet) 0 (form-law (all_words net) (all_words sheet))).judged
      (λ p. room-bytes (minimal_form (all_words net) (all_words sheet)) out)

  pub check-judged : Judges (words_verdict (check_bytes net sheet) (all_words [] ∷ [])) (once (Whole (length net) (length sheet) 0) BrokenWord ∷ decoded_checks net sheet)
  check-judged =
      words-judged-none (check_bytes net sheet) (all_words [] ∷ []) (bytes-law (length net) (length sheet) 0 (check-law (all_words net) (all_words sheet))).judged refl

-- ---- a check that returned 0

pub accepted-passes : (net sheet : List ℕ) → BytesAccepted net sheet → Whole (length net) (length sheet) 0 × (schedule_reply (all_words net) (all_words sheet) ≡ Ok tt)
accepted-passes net sheet a =
    let (l, (s, (w, d))) = zero-passes (length net) (length sheet) 0 [] (check-law (all_words net) (all_words sheet)) (check-judged net sheet) refl _ _ _ _ _ a.done in
    (w, (schedule-judged (all_words net) (all_words sheet)).accepts.1 d)

always : (net sheet : List ℕ) → Whole (length net) (length sheet) 0 → schedule_reply (all_words net) (all_words sheet) ≡ Ok tt → AlwaysAccepted net sheet
always net sheet w h s p r s' p' ls lp d =
    passes-zero (length net) (length sheet) 0 [] (check-law (all_words net) (all_words sheet)) (check-judged net sheet) refl _ _ _ _ _ _ d lp
    (ls, (w, (schedule-judged (all_words net) (all_words sheet)).accepts.0 h))

-- ---- what a call of the minimal form wrote

module _ (net sheet : List ℕ) (c : BytesForm net sheet) where
  abbrev form : List ℕ
  form = minimal_form (all_words net) (all_words sheet)

  passed : Whole (length net) (length sheet) 0 × (schedule_reply (all_words net) (all_words sheet) ≡ Ok tt)
  passed =
      let (l, (s, (w, rest))) = zero-passes (length net) (length sheet) 0 c.out (form-law (all_words net) (all_words sheet)) (form-judged net sheet c.out) refl _ _ _ _ _ c.done in
      (w, (schedule-judged (all_words net) (all_words sheet)).accepts.1 ((pass-append (decoded_checks net sheet) (once (length form ≤ length c.out / 4) SmallOutput ∷ [])).0 rest).0)

  left : (c.out' ≡ bytes_over 4 form c.out) × (c.reply' ≡ bytes_over 8 (0 ∷ 0 ∷ 0 ∷ length form ∷ 0 ∷ 0 ∷ []) c.reply)
  left = zero-written (length net) (length sheet) 0 c.out (form-law (all_words net) (all_words sheet)) (form-judged net sheet c.out) refl _ _ _ _ _ c.done

  size-form : size c ≡ length form
  unfolding bytes_over
  size-form =
      number-at (0 ∷ 0 ∷ 0 ∷ length form ∷ 0 ∷ 0 ∷ []) 3 (omega arith) 8 (omega arith) c.reply'
      (λ j l. ap (λ (y : List ℕ). get_or y j 0) left.1
      ∙ get_or-append (bytes_of 8 (0 ∷ 0 ∷ 0 ∷ length form ∷ 0 ∷ 0 ∷ [])) _ 0 j (rw (bytes-length 8 (0 ∷ 0 ∷ 0 ∷ length form ∷ 0 ∷ 0 ∷ [])) l)
      ∙ byte-there 8 (0 ∷ 0 ∷ 0 ∷ length form ∷ 0 ∷ 0 ∷ []) j l)
      (omega (arith, form-short (all_words net) (all_words sheet) passed.1))

  made-form : made c ≡ bytes_of 4 form
  unfolding bytes_over
  made-form = rw (size-form, left.0, ← (bytes-length 4 form)) (take-append_seam (bytes_of 4 form) _)

  made-length : length (made c) ≡ 4 * size c
  made-length = rw (made-form, size-form) (bytes-length 4 form)

  pub made-back : all_words (made c) ≡ form
  made-back =
      ap all_words made-form ∙ words_back form (accepted-words (all_words net) form (form-accepted (all_words net) (all_words sheet) passed.1))

  pub made-accepted : AlwaysAccepted net (made c)
  made-accepted =
      let (a, b, z) = passed.0 in
      always net (made c) (a, omega (arith, made-length), z) (rw made-back (form-accepted (all_words net) (all_words sheet) passed.1))

  pub made-lists : SameLists (bytes_said net (made c)) (bytes_said net sheet) 0 0
  made-lists = rw made-back (form-lists (all_words net) (all_words sheet) passed.1)

-- ---- two of them

same-made : (net x y : List ℕ) (a : BytesForm net x) (b : BytesForm net y) → SameBytes a b ↔ (made a ≡ made b)
same-made net x y a b = (
  λ r. ext_get_or 0 (made a) (made b) (omega (arith, made-length net x a, made-length net y b, r.lengths)) (λ i l.
      let m : i < 4 * size a = rw (made-length net x a) at l in
      cc (get_or-take (4 * size a) a.out' i 0 m, r.bytes i m, get_or-take (4 * size b) b.out' i 0 (rw r.lengths at m))),
  λ e. let q : size a ≡ size b = omega (arith, made-length net x a, made-length net y b, ap length e) in
      record { lengths = q; bytes = λ i l. cc (get_or-take (4 * size a) a.out' i 0 l, get_or-take (4 * size b) b.out' i 0 (rw q at l)) },
)

pub forms-same : (net x y : List ℕ) (a : BytesForm net x) (b : BytesForm net y) → SameBytes a b ↔ SameLists (bytes_said net x) (bytes_said net y) 0 0
forms-same net x y a b =
    let (f, g) = forms-equal (all_words net) (all_words x) (all_words y) (passed net x a).1 (passed net y b).1 in
    let (p, q) = same-made net x y a b in (
      λ r. f (sym (made-back net x a) ∙ ap all_words (p r) ∙ made-back net y b),
      λ s. q (made-form net x a ∙ ap (bytes_of 4) (g s) ∙ sym (made-form net y b)),
    )

-- ---- and there is one

pub form-there : (net sheet out scratch reply : List ℕ) → BytesAccepted net sheet → scratch_bytes ≤ length scratch → reply_bytes ≤ length reply → 32776 ≤ length out
    → (c : BytesForm net sheet) × (c.out ≡ out) × (c.scratch ≡ scratch) × (c.reply ≡ reply)
form-there net sheet out scratch reply a ls lp lo =
    let (w, h) = accepted-passes net sheet a in
    let law = form-law (all_words net) (all_words sheet) in
    let (r, out', s', p', d) = (every-bytes (length net) (length sheet) 0 out law (form-judged net sheet out) refl).replies scratch reply in
    let room : length (minimal_form (all_words net) (all_words sheet)) ≤ length out / 4 = omega (arith, form-short (all_words net) (all_words sheet) h) in
    let z : r ≡ 0 = passes-zero (length net) (length sheet) 0 out law (form-judged net sheet out) refl _ _ _ _ _ _ d lp (
      ls,
      (
        w,
        (pass-append (decoded_checks net sheet) (once (length (minimal_form (all_words net) (all_words sheet)) ≤ length out / 4) SmallOutput ∷ [])).1
            ((schedule-judged (all_words net) (all_words sheet)).accepts.0 h, (room, tt)),
      ),
    ) in
    (record { out = out; scratch = scratch; reply = reply; out' = out'; scratch' = s'; reply' = p'; done = rw z at d }, refl, refl, refl)
