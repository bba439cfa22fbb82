-- The altered replies that the reads of a path add to a log give all its replies back.
use Rattle.std.proofs.Common.{◌≡◌, ◌<◌, ◌+◌, ◌*◌, ℕ, zero, suc, Bool, true, false, if◌then◌else◌, List, [], ◌∷◌, ◌++◌}
use Rattle.std.proofs.Common.{length, map, get_or, All, Result, Ok, Err, refl, sym, ◌∙◌, ap, ap₂, subst, arith}
use Rattle.std.proofs.Common.{append_assoc, append-nil, eq-eqb, ne_eqb}
use Rattle.std.proofs.lemmas.Slice.Eq.{bytes_eq-Decides}
use Rattle.std.proofs.lemmas.List.Elements.{All-cons}
use Rattle.std.specs.List.{range_with_len}
use Rattle.asc_base.specs.TreeShape.{bucket_of}
use Rattle.asc_base.specs.declared.block.Entry.{Entry}
use Rattle.asc_base.specs.declared.shape.Shape.{Shape}
use Rattle.bus_watch.specs.Log.{LogLists, TapState, is_bucket}
use Rattle.bus_watch.specs.declared.log.Altered.{Altered}
use Rattle.asc_base.specs.declared.stop.Evidence.{Evidence}
use Rattle.bus_watch.specs.declared.bus.BusStop.{BusStop}
use Rattle.unified_tree.specs.declared.stop.TreeStop.{TreeStop}
use Rattle.unified_tree.specs.declared.stop.TreeStop.TheVariants.{BadSlot, OffPath, Doubled, Full, Device, NoMemory}
use Rattle.oram_contents.specs.PathRead.{reply_at, path_read}
use Rattle.unified_tree.specs.Reads.{log_with, log_after}
use Rattle.unified_tree.specs.Joined.{path_joined}
use Rattle.unified_tree.specs.Slot.{WasRead}
use Rattle.unified_tree.specs.Stops.{Says, IfRead}

abbrev altered_at : ℕ → ℕ → ℕ → ℕ → ℕ → List ℕ → Altered
altered_at levels start leaf before k text = record {
  time = start + 40 * k;
  bucket = bucket_of levels leaf k;
  bytes =
      text;
  before = before;
}

-- the altered replies among these, from level k on
abbrev pub altered_of : ℕ → ℕ → ℕ → List (List ℕ) → ℕ → ℕ → List (List ℕ) → List Altered
altered_of levels start leaf mirror before k [] = []
altered_of levels start leaf mirror before k (text ∷ texts) =
    if is_bucket mirror (bucket_of levels leaf k) text
    then altered_of levels start leaf mirror before (k + 1) texts
    else altered_at levels start leaf before k text ∷ altered_of levels start leaf mirror before (k + 1) texts

pub log_after-altered : (levels start leaf : ℕ) (mirror : List (List ℕ)) (k : ℕ) (log : LogLists)
    (texts : List (List ℕ))
    → (log_after levels start leaf mirror k log texts).altered ≡ log.altered ++ altered_of levels start leaf mirror
    (length log.events) k texts
log_after-altered levels start leaf mirror k log [] = sym (append-nil log.altered)
log_after-altered levels start leaf mirror k log (text ∷ texts) = both
    (is_bucket mirror (bucket_of levels leaf k) text) refl
    (log_after-altered levels start leaf mirror (k + 1) (log_with levels start leaf mirror k log text) texts)
  where
    both : (b : Bool) → is_bucket mirror (bucket_of levels leaf k) text ≡ b
        → (log_after levels start leaf mirror (k + 1) (log_with levels start leaf mirror k log text) texts).altered ≡
        (log_with levels start leaf mirror k log text).altered ++ altered_of levels start leaf mirror
        (length (log_with levels start leaf mirror k log text).events) (k + 1) texts
        → (log_after levels start leaf mirror (k + 1) (log_with levels start leaf mirror k log text) texts).altered
        ≡ log.altered ++ altered_of levels start leaf mirror (length log.events) k (text ∷ texts)
    both true is next = next ∙ rw is refl
    both false is next = next ∙ rw is (append_assoc log.altered (_ ∷ [])
        (altered_of levels start leaf mirror (length log.events) (k + 1) texts))

-- each was noted at this place
pub altered_of-noted : (levels start leaf : ℕ) (mirror : List (List ℕ)) (before k : ℕ) (texts : List (List ℕ))
    → All (λ (reply : Altered). reply.before ≡ before) (altered_of levels start leaf mirror before k texts)
altered_of-noted levels start leaf mirror before k [] = λ i d less. absurd (omega arith)
altered_of-noted levels start leaf mirror before k (text ∷ texts) = both
    (is_bucket mirror (bucket_of levels leaf k) text) (altered_of-noted levels start leaf mirror before (k + 1) texts)
  where
    both : (b : Bool) → All (λ (reply : Altered). reply.before ≡ before)
        (altered_of levels start leaf mirror before (k + 1) texts)
        → All (λ (reply : Altered). reply.before ≡ before)
        (if b then altered_of levels start leaf mirror before
        (k + 1) texts else altered_at levels start leaf before k text ∷ altered_of levels start leaf mirror before
        (k + 1) texts)
    both true next = next
    both false next = All-cons (λ (reply : Altered). reply.before ≡ before)
        (altered_at levels start leaf before k text) (altered_of levels start leaf mirror before (k + 1) texts) refl
        next

-- no later level's reply has the time of an earlier one
later_reply : (levels start leaf : ℕ) (mirror : List (List ℕ)) (before k j bucket : ℕ) (texts : List (List ℕ)) → j < k
    → reply_at mirror (altered_of levels start leaf mirror before k texts)
    (start + 40 * j) bucket ≡ get_or mirror bucket []
later_reply levels start leaf mirror before k j bucket [] less = refl
later_reply levels start leaf mirror before k j bucket (text ∷ texts) less = both
    (is_bucket mirror (bucket_of levels leaf k) text) (later_reply levels start leaf mirror before
    (k + 1) j bucket texts (omega arith))
  where
    both : (b : Bool) → reply_at mirror (altered_of levels start leaf mirror before (k + 1) texts)
        (start + 40 * j) bucket ≡ get_or mirror bucket []
        → reply_at mirror (if b then altered_of levels start leaf mirror before
        (k + 1) texts else altered_at levels start leaf before k text ∷ altered_of levels start leaf mirror before
        (k + 1) texts) (start + 40 * j) bucket ≡ get_or mirror bucket []
    both true next = next
    both false next = rw (ne_eqb (start + 40 * k) (start + 40 * j) (λ e. omega (arith, e))) next

abbrev replies_from : ℕ → ℕ → ℕ → List (List ℕ) → List Altered → ℕ → ℕ → List (List ℕ)
replies_from levels start leaf mirror altered k n = map
    (λ level. reply_at mirror altered (start + 40 * level) (bucket_of levels leaf level)) (range_with_len k n)

-- an earlier reply says nothing of later levels
skip_reply : (levels start leaf : ℕ) (mirror : List (List ℕ)) (x : Altered) (xs : List Altered) (j k n : ℕ)
    → x.time ≡ start + 40 * j → j < k
    → replies_from levels start leaf mirror (x ∷ xs) k n ≡ replies_from levels start leaf mirror xs k n
skip_reply levels start leaf mirror x xs j k zero at less = refl
skip_reply levels start leaf mirror x xs j k (suc n) at less = rw
    (ne_eqb x.time (start + 40 * k) (λ e. omega (arith, e, at)))
    (ap (λ r. reply_at mirror xs (start + 40 * k) (bucket_of levels leaf k) ∷ r)
    (skip_reply levels start leaf mirror x xs j (k + 1) n at (omega arith)))

-- a text that is the mirror's bucket
is_bucket-text : (mirror : List (List ℕ)) (b : ℕ) (text : List ℕ) → is_bucket mirror b text ≡ true
    → get_or mirror b [] ≡ text
is_bucket-text [] b text is = absurd (let bad : false ≡ true = is in cc)
is_bucket-text (m ∷ mirror) zero text is = (bytes_eq-Decides m text).0 is
is_bucket-text (m ∷ mirror) (suc b) text is = is_bucket-text mirror b text is

pub same_replies : (levels start leaf : ℕ) (mirror : List (List ℕ)) (before k : ℕ) (texts : List (List ℕ))
    → replies_from levels start leaf mirror (altered_of levels start leaf mirror before k texts) k
    (length texts) ≡ texts
same_replies levels start leaf mirror before k [] = refl
same_replies levels start leaf mirror before k (text ∷ texts) = both
    (is_bucket mirror (bucket_of levels leaf k) text) refl (same_replies levels start leaf mirror before (k + 1) texts)
  where
    both : (b : Bool) → is_bucket mirror (bucket_of levels leaf k) text ≡ b
        → replies_from levels start leaf mirror (altered_of levels start leaf mirror before (k + 1) texts) (k + 1)
        (length texts) ≡ texts
        → replies_from levels start leaf mirror
        (if b then altered_of levels start leaf mirror before
        (k + 1) texts else altered_at levels start leaf before k text ∷ altered_of levels start leaf mirror before
        (k + 1) texts)
        k (length (text ∷ texts)) ≡ text ∷ texts
    both true is next = ap₂ (λ a r. a ∷ r) (later_reply levels start leaf mirror before (k + 1) k
        (bucket_of levels leaf k) texts (omega arith) ∙ is_bucket-text mirror (bucket_of levels leaf k) text is) next
    both false is next = rw (eq-eqb (start + 40 * k) (start + 40 * k) refl)
        (ap (λ r. text ∷ r) (skip_reply levels start leaf mirror (altered_at levels start leaf before k text)
        (altered_of levels start leaf mirror before (k + 1) texts) k (k + 1) (length texts) refl (omega arith) ∙ next))

-- a path read, from what its two parts say
pub was_read_of : (key : List ℕ) (shape : Shape) (start leaf : ℕ) (result : Result (Unit {0}) TreeStop)
    (tap tap' : TapState) (hand hand' : List Entry) (texts : List (List ℕ))
    → length texts ≡ shape.levels + 1 → tap'.log ≡ log_after shape.levels start leaf tap.mirror 0 tap.log texts
    → Says result (path_read key shape leaf texts hand) hand'
    → hand' ≡ path_joined key shape leaf texts hand → WasRead key shape start leaf result tap tap' hand hand'
was_read_of key shape start leaf result tap tap' hand hand' texts counted log says joined =
    let altered = altered_of shape.levels start leaf tap.mirror (length tap.log.events) 0 texts in
    let same : texts ≡ replies_from shape.levels start leaf tap.mirror altered 0 (shape.levels + 1) =
    sym (ap (λ n. replies_from shape.levels start leaf tap.mirror altered 0 n) (sym counted)
    ∙ same_replies shape.levels start leaf tap.mirror (length tap.log.events) 0 texts) in
    record {
      gains = record {
        altered = altered;
        gained = ap (λ (l : LogLists). l.altered) log ∙ log_after-altered shape.levels start leaf tap.mirror 0 tap.log
            texts;
        noted = altered_of-noted shape.levels start leaf tap.mirror (length tap.log.events) 0 texts;
      };
      says = subst (λ t. Says result (path_read key shape leaf t hand) hand') same says;
      joined = subst (λ t. hand' ≡ path_joined key shape leaf t hand) same joined;
    }

-- what holds for each answer that says something of the verdict
pub if_read : (result : Result (Unit {0}) TreeStop) (verdict : Result (List Entry) Evidence) (hand : List Entry)
    (P : Type 0) (Q : BusStop → Type 0) → Says result verdict hand → P → IfRead result P Q
if_read (Ok u) verdict hand P Q says p = p
if_read (Err (BadSlot bucket slot)) verdict hand P Q says p = p
if_read (Err (OffPath bucket slot)) verdict hand P Q says p = p
if_read (Err (Doubled address)) verdict hand P Q says p = p
if_read (Err (Full held)) verdict hand P Q says p = says
if_read (Err Device) verdict hand P Q says p = absurd says
if_read (Err NoMemory) verdict hand P Q says p = absurd says
