-- The paths of the writer's code: a buffer is too short, or both are written.
use Rattle.std.specs.Prelude.{Err, Ok}
use Rattle.refusal.specs.Refusal.{Verdict}
use Rattle.scan.proofs.Basics.{ℕ, ◌+◌, ◌*◌, ◌≡◌, refl, sym, ◌∙◌, List, length}
use Rattle.scan.specs.Placed.{placed}
use Rattle.scan.proofs.Placed.{placed-front}
use Rattle.refusal.specs.declared.Refusal.{Refusal}
use Rattle.graph.specs.Readable.{words_reply}
use Rattle.lending.specs.Call.{room_fault}
use Rattle.lending.proofs.Lent.{room-holds}
use Rattle.lending.proofs.Laws.{refused-first, refused-second, answered-two}
use Rattle.trimmed.specs.Trim.{trimmed_words, kept_list}
use Rattle.trimmed.specs.Call.{TrimWritten}
use Rattle.trim.specs.Tables.{NewNodes, Counted}
use Rattle.trim.proofs.Writing.{sheet-length, list_length}

module _ (net sheet out list : List ℕ) {cells : List ℕ} {found entries : ℕ} (a : words_reply net sheet ≡ Ok tt) (h : NewNodes net sheet cells found) (k : Counted net sheet entries) where
  sheet-long : length (trimmed_words net sheet) ≡ 2 + 2 * entries
  sheet-long = sheet-length h.new.readable k

  pub sheet-short : {w : Verdict} {r : Refusal} → w ≡ room_fault (length out) (2 + 2 * entries) → w ≡ Err r → TrimWritten net sheet out list (Err r) out list
  sheet-short f g = refused-first refl a (rw sheet-long (sym f ∙ g)) refl

  pub list-short : {w : Verdict} {r : Refusal} → w ≡ room_fault (length list) (found) → w ≡ Err r → TrimWritten net sheet out list (Err r) out list
  list-short f g = refused-second refl a (rw (list_length h) (sym f ∙ g)) refl

  pub both-written : {w x : Verdict} {out' list' : List ℕ} → w ≡ room_fault (length out) (2 + 2 * entries) → w ≡ Ok tt → x ≡ room_fault (length list) (found) → x ≡ Ok tt
      → out' ≡ placed out 0 (trimmed_words net sheet) → list' ≡ placed list 0 (kept_list net sheet)
      → TrimWritten net sheet out list (Ok (record { sheet = 2 + 2 * entries; list = found })) out' list'
  both-written f g i j o l =
      let x : room_fault (length out) (length (trimmed_words net sheet)) ≡ Ok tt = rw sheet-long (sym f ∙ g) in
      let y : room_fault (length list) (length (kept_list net sheet)) ≡ Ok tt = rw (list_length h) (sym i ∙ j) in
      answered-two refl a x y (rw (sheet-long, list_length h))
      (o ∙ placed-front (trimmed_words net sheet) out (room-holds _ _ x)) (l ∙ placed-front (kept_list net sheet) list (room-holds _ _ y))
