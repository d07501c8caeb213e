-- What is promised of the calls over bytes (§15.8), as statements over their postconditions. proofs/Demands has a term for the record at the end.
use Rattle.refusal.specs.declared.Reason.TheVariants.{BrokenWord, NoSuchNode, NotOffered, SmallOutput}
use Rattle.refusal.specs.Refusal.{refusal_number}
use Rattle.std.specs.Prelude.{ℕ, ◌+◌, ◌*◌, ◌/◌, ◌%◌, ◌≤◌, ◌<◌, ◌≡◌, ◌⊎◌, ◌↔◌, List, [], ◌∷◌, ◌++◌, length, get_or, take, drop, replicate}
use Rattle.std.proofs.Math.Option.{some}
use Rattle.automaton.specs.Automaton.{Automaton, SameLists}
use Rattle.refusal.specs.Limits.{most_places, scratch_limit, most_entries}
use Rattle.refusal.specs.Checks.{Check, once, AllPass, FirstFails}
use Rattle.refusal.specs.declared.Refusal.{Refusal}
use Rattle.net.specs.Checks.{net_checks}
use Rattle.sequential.specs.Petri.{petri_net}
use Rattle.sequential.specs.Words.{node_count, count_at, graph}
use Rattle.sequential.specs.Schedule.{Offers}
use Rattle.sequential.specs.Checks.{sheet_checks}
use Rattle.judge.specs.Answer.{plain_check}
use Rattle.lending.specs.Call.{Core, CallDone, buffer}
use Rattle.lending.specs.Demands.{number, call_checks, ByChecks, ScratchLeft}
use Rattle.schedule.specs.Walker.{run_checks}
use Rattle.schedule.specs.Calls.{check_core, run_core, FireDone}
use Rattle.schedule.specs.Plain.{plain_run, FireAnswer}
use Rattle.schedule.specs.declared.Walker.{Walker}
use Rattle.minimal.specs.Form.{form_core, plain_form}
use Rattle.octets.specs.Words.{all_words}
use Rattle.octets.specs.Bytes.{bytes_over, number_at}
use Rattle.firmware.specs.Bytes.{scratch_bytes, reply_bytes, BytesDone}
use Rattle.firmware.specs.Calls.{check_bytes, BytesChecked, run_bytes, BytesRan, form_bytes, BytesFormed, own_walker, one_number, BytesFired}

-- ---- what is checked: §7.65

-- each length is a multiple of four
abbrev pub Whole : ℕ → ℕ → ℕ → Type 0
Whole net sheet firings = (net % 4 ≡ 0) × (sheet % 4 ≡ 0) × (firings % 4 ≡ 0)

-- scratch, then whole words, then the word call's checks of the decoded words
abbrev pub bytes_checks : List ℕ → Type 0 → List Check → List Check
bytes_checks scratch Unbroken words = call_checks scratch_bytes scratch (once Unbroken BrokenWord ∷ words)

-- the checks of net and schedule, decoded
abbrev pub decoded_checks : List ℕ → List ℕ → List Check
decoded_checks net sheet = net_checks (all_words net) ++ sheet_checks (petri_net (all_words net)) (all_words sheet)

-- ---- each of the first three calls

-- A call is given by its postcondition, on scratch and reply before, the number returned, and the output buffer, scratch and reply after.
module _ (checks : List ℕ → List Check) (Unbroken : Type 0) (out : List ℕ) (Done : List ℕ → List ℕ → ℕ → List ℕ → List ℕ → List ℕ → Type 0) where
  pub record EveryBytesCall : Type 0 where
    -- there is an answer, whatever is lent
    pub replies : (s p : List ℕ) → (r : ℕ) × (out' : List ℕ) × (s' : List ℕ) × (p' : List ℕ) × Done s p r out' s' p'
    -- there is only one, whatever scratch and reply held
    pub one : (s₁ s₂ p₁ p₂ : List ℕ) (r₁ r₂ : ℕ) (out₁ out₂ s₁' s₂' p₁' p₂' : List ℕ) → length s₁ ≡ length s₂ → length p₁ ≡ length p₂
        → Done s₁ p₁ r₁ out₁ s₁' p₁' → Done s₂ p₂ r₂ out₂ s₂' p₂' → (r₁ ≡ r₂) × (out₁ ≡ out₂)
    -- the reply has the six numbers of an answer by the call's checks, and the first of them is returned
    pub by_numbers : (s p : List ℕ) (r : ℕ) (out' s' p' : List ℕ) → Done s p r out' s' p' → reply_bytes ≤ length p
        → (six : List ℕ) × (length six ≡ 6) × ByChecks (checks s) six × (r ≡ number six) × (p' ≡ bytes_over 8 six p)
    -- 21 exactly if reply or scratch is too short; 31 exactly if neither is and some input has a broken word
    pub small : (s p : List ℕ) (r : ℕ) (out' s' p' : List ℕ) → Done s p r out' s' p' → (r ≡ 21) ↔ ((length p < reply_bytes) ⊎ (length s < scratch_bytes))
    pub broken : (s p : List ℕ) (r : ℕ) (out' s' p' : List ℕ) → Done s p r out' s' p'
        → (r ≡ 31) ↔ ((reply_bytes ≤ length p) × (scratch_bytes ≤ length s) × (Unbroken → ⊥))
    -- a refusal writes no result
    pub keeps : (s p : List ℕ) (r : ℕ) (out' s' p' : List ℕ) → Done s p r out' s' p' → (r ≡ 0 → ⊥) → out' ≡ out
    -- scratch is cleared unless it is too short; if the reply has fewer than 48 bytes, nothing is touched (§15.3, §15.4)
    pub scratch : (s p : List ℕ) (r : ℕ) (out' s' p' : List ℕ) → Done s p r out' s' p' → reply_bytes ≤ length p → ScratchLeft scratch_bytes r s s'
    pub untouched : (s p : List ℕ) (r : ℕ) (out' s' p' : List ℕ) → Done s p r out' s' p' → length p < reply_bytes → (s' ≡ s) × (p' ≡ p)

-- the answer is that of the word call on the decoded words, if the whole words of the buffer are lent for its output; and its words are written as bytes
abbrev pub AsWords : {Answer : Type 0} → Core Answer → Core Answer → (Answer → List ℕ) → Type 0 → Type 0
AsWords {Answer} bytes core six Unbroken = (out s p out' s' p' scratch scratch' : List ℕ) (outs' : List (List ℕ)) (r : ℕ) (answer : Answer)
    → Unbroken → scratch_bytes ≤ length s → reply_bytes ≤ length p → scratch_limit ≤ length scratch
    → BytesDone bytes six out s p r out' s' p' → CallDone scratch_limit core (all_words out ∷ []) scratch answer outs' scratch'
    → (r ≡ number (six answer)) × (p' ≡ bytes_over 8 (six answer) p)
    × (r ≡ 0 → out' ≡ bytes_over 4 (take (length (buffer core.results 0)) (buffer outs' 0)) out)

-- nothing depends on what the buffers held (§13.5): with equal lengths the number, the six numbers and the written words are the same
abbrev pub Unread : {Answer : Type 0} → Core Answer → (Answer → List ℕ) → Type 0
Unread bytes six = (o₁ o₂ s₁ s₂ p₁ p₂ o₁' o₂' s₁' s₂' p₁' p₂' : List ℕ) (r₁ r₂ : ℕ) → length o₁ ≡ length o₂ → length s₁ ≡ length s₂ → length p₁ ≡ length p₂
    → BytesDone bytes six o₁ s₁ p₁ r₁ o₁' s₁' p₁' → BytesDone bytes six o₂ s₂ p₂ r₂ o₂' s₂' p₂'
    → (r₁ ≡ r₂) × (reply_bytes ≤ length p₁ → (told : List ℕ) × (p₁' ≡ bytes_over 8 told p₁) × (p₂' ≡ bytes_over 8 told p₂))
    × (r₁ ≡ 0 → (words : List ℕ) × (o₁' ≡ bytes_over 4 words o₁) × (o₂' ≡ bytes_over 4 words o₂))

-- ---- the single firing

-- 19 is not among its checks
abbrev pub firing_checks : List ℕ → List ℕ → ℕ → ℕ → List ℕ → List Check
firing_checks net sheet n t scratch =
    bytes_checks scratch (Whole (length net) (length sheet) 0) (decoded_checks net sheet
    ++ (once (n < node_count (all_words sheet)) NoSuchNode ∷ once (Offers (petri_net (all_words net)) (graph (petri_net (all_words net)) (all_words sheet)) n t) NotOffered ∷ []))

-- a number below 2,147,483,648 is the target of the arc; a number from there on tells the first check that fails
pub record FiresByNumber (net sheet : List ℕ) (n t : ℕ) (scratch : List ℕ) (r : ℕ) : Type 0 where
  pub fires : (r < 2147483648) ↔ AllPass (firing_checks net sheet n t scratch)
  pub leads : r < 2147483648 → (graph (petri_net (all_words net)) (all_words sheet)).arc n t ≡ some r
  pub named : 2147483648 ≤ r → (x : Refusal) × FirstFails (firing_checks net sheet n t scratch) x × (r ≡ 2147483648 + refusal_number x)
  pub this : (x : Refusal) → FirstFails (firing_checks net sheet n t scratch) x → r ≡ 2147483648 + refusal_number x
  -- when the answer is 21 or 31; it is never 19
  pub small : (r ≡ 2147483669) ↔ (length scratch < scratch_bytes)
  pub broken : (r ≡ 2147483679) ↔ ((scratch_bytes ≤ length scratch) × (Whole (length net) (length sheet) 0 → ⊥))
  pub never_19 : r ≡ 2147483667 → ⊥

-- as of every call: one answer, whatever scratch held, and scratch left as it should be
pub record EveryFiring (net sheet : List ℕ) (n t : ℕ) : Type 0 where
  pub replies : (s : List ℕ) → (r : ℕ) × (s' : List ℕ) × BytesFired net sheet n t s r s'
  pub one : (s₁ s₂ : List ℕ) (r₁ r₂ : ℕ) (s₁' s₂' : List ℕ) → length s₁ ≡ length s₂ → BytesFired net sheet n t s₁ r₁ s₁' → BytesFired net sheet n t s₂ r₂ s₂' → r₁ ≡ r₂
  pub kept : (s : List ℕ) (r : ℕ) (s' : List ℕ) → BytesFired net sheet n t s r s' → length s < scratch_bytes → s' ≡ s
  pub cleared : (s : List ℕ) (r : ℕ) (s' : List ℕ) → BytesFired net sheet n t s r s' → scratch_bytes ≤ length s → s' ≡ replicate scratch_bytes 0 ++ drop scratch_bytes s

-- ---- demand 3 over bytes: §11.9

-- the graph that a schedule's bytes describe
abbrev pub bytes_said : List ℕ → List ℕ → Automaton
bytes_said net sheet = graph (petri_net (all_words net)) (all_words sheet)

-- some call of the check returned 0
pub record BytesAccepted (net sheet : List ℕ) : Type 0 where
  pub scratch : List ℕ
  pub reply : List ℕ
  pub scratch' : List ℕ
  pub reply' : List ℕ
  pub done : BytesChecked net sheet scratch reply 0 scratch' reply'

-- every call of the check that is lent enough returns 0
abbrev pub AlwaysAccepted : List ℕ → List ℕ → Type 0
AlwaysAccepted net sheet = (scratch reply : List ℕ) (r : ℕ) (scratch' reply' : List ℕ) → scratch_bytes ≤ length scratch → reply_bytes ≤ length reply
    → BytesChecked net sheet scratch reply r scratch' reply' → r ≡ 0

-- the single firing does what the word call does with a walker at node n that has the node's own counts
pub record FiresAsWords (net sheet : List ℕ) (n t : ℕ) : Type 0 where
  pub same : (s scratch s' scratch' : List ℕ) (r : ℕ) (answer : FireAnswer) (next : Walker) → Whole (length net) (length sheet) 0 → scratch_bytes ≤ length s → scratch_limit ≤ length scratch
      → BytesFired net sheet n t s r s' → FireDone (all_words net) (all_words sheet) scratch (own_walker (all_words net) (all_words sheet) n) t answer next scratch'
      → r ≡ one_number (answer, next)
  -- on an accepted schedule the walker's counts are the node's, and 0 from P on
  pub node : (own_walker (all_words net) (all_words sheet) n).node ≡ n
  pub counts : BytesAccepted net sheet → n < node_count (all_words sheet)
      → (p : ℕ) → p < most_places → get_or (own_walker (all_words net) (all_words sheet) n).counts p 0 ≡ count_at (petri_net (all_words net)) (all_words sheet) n p

-- a call of the minimal form that returned 0
pub record BytesForm (net sheet : List ℕ) : Type 0 where
  pub out : List ℕ
  pub scratch : List ℕ
  pub reply : List ℕ
  pub out' : List ℕ
  pub scratch' : List ℕ
  pub reply' : List ℕ
  pub done : BytesFormed net sheet out scratch reply 0 out' scratch' reply'

-- the length, which is the fourth number of the reply, and the bytes of that many words of the buffer
abbrev pub size : {net sheet : List ℕ} → BytesForm net sheet → ℕ
size c = number_at 8 c.reply' 3

abbrev pub made : {net sheet : List ℕ} → BytesForm net sheet → List ℕ
made c = take (4 * size c) c.out'

-- equal in length and byte for byte
pub record SameBytes {net x y : List ℕ} (a : BytesForm net x) (b : BytesForm net y) : Type 0 where
  pub lengths : size a ≡ size b
  pub bytes : (i : ℕ) → i < 4 * size a → get_or a.out' i 0 ≡ get_or b.out' i 0

-- ---- all of it

pub record BytesDemand : Type 0 where
  -- `BytesChecked` is the case of no output buffer
  pub check : (net sheet : List ℕ) → EveryBytesCall (λ s. bytes_checks s (Whole (length net) (length sheet) 0) (decoded_checks net sheet))
      (Whole (length net) (length sheet) 0) [] (BytesDone (check_bytes net sheet) plain_check [])
  pub run : (net sheet firings out : List ℕ) → EveryBytesCall
      (λ s. bytes_checks s (Whole (length net) (length sheet) (length firings))
      ((decoded_checks net sheet ++ run_checks (petri_net (all_words net)) (all_words sheet) (all_words firings)) ++ (once ((petri_net (all_words net)).places ≤ length out / 4) SmallOutput ∷ [])))
      (Whole (length net) (length sheet) (length firings)) out (BytesRan net sheet firings out)
  -- demand 3 says how many words it needs
  pub short_form : (net sheet : List ℕ) → (needed : ℕ) × ((out : List ℕ) → EveryBytesCall
      (λ s. bytes_checks s (Whole (length net) (length sheet) 0) (decoded_checks net sheet ++ (once (needed ≤ length out / 4) SmallOutput ∷ [])))
      (Whole (length net) (length sheet) 0) out (BytesFormed net sheet out))
  -- each call does what the word call does
  pub check_as_words : (net sheet : List ℕ) → AsWords (check_bytes net sheet) (check_core (all_words net) (all_words sheet)) plain_check (Whole (length net) (length sheet) 0)
  pub run_as_words : (net sheet firings : List ℕ)
      → AsWords (run_bytes net sheet firings) (run_core (all_words net) (all_words sheet) (all_words firings)) plain_run (Whole (length net) (length sheet) (length firings))
  pub form_as_words : (net sheet : List ℕ) → AsWords (form_bytes net sheet) (form_core (all_words net) (all_words sheet)) plain_form (Whole (length net) (length sheet) 0)
  -- nothing depends on what the buffers held
  pub run_unread : (net sheet firings : List ℕ) → Unread (run_bytes net sheet firings) plain_run
  pub form_unread : (net sheet : List ℕ) → Unread (form_bytes net sheet) plain_form
  -- the single firing: what holds of every call, what its number means, and that it does what the word call does
  pub every_fire : (net sheet : List ℕ) (n t : ℕ) → EveryFiring net sheet n t
  pub fire_as_words : (net sheet : List ℕ) (n t : ℕ) → FiresAsWords net sheet n t
  pub fire : (net sheet : List ℕ) (n t : ℕ) (scratch : List ℕ) (r : ℕ) (scratch' : List ℕ) → BytesFired net sheet n t scratch r scratch' → FiresByNumber net sheet n t scratch r
  -- two minimal forms are equal exactly when every list is allowed from both roots or from neither
  pub equal : (net x y : List ℕ) → BytesAccepted net x → BytesAccepted net y → (a : BytesForm net x) (b : BytesForm net y)
      → SameBytes a b ↔ SameLists (bytes_said net x) (bytes_said net y) 0 0
  -- each is accepted, and allows the lists that its original allows
  pub accepted : (net sheet : List ℕ) → BytesAccepted net sheet → (c : BytesForm net sheet) → AlwaysAccepted net (made c)
  pub same_lists : (net sheet : List ℕ) → BytesAccepted net sheet → (c : BytesForm net sheet) → SameLists (bytes_said net (made c)) (bytes_said net sheet) 0 0
  -- with enough room for reply, scratch and result, there is such a call
  pub there_is : (net sheet out scratch reply : List ℕ) → BytesAccepted net sheet → scratch_bytes ≤ length scratch → reply_bytes ≤ length reply
      → 4 * (2 + 2 * most_entries) ≤ length out → (c : BytesForm net sheet) × (c.out ≡ out) × (c.scratch ≡ scratch) × (c.reply ≡ reply)
