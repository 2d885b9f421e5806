-- Any two results that a promise of the library allows are the same, and so is what is stored and what the buffer holds.
use Prim.Native.Nat.{ℕ}
use mathlib.Core.Path.{◌≡◌, sym, ap, ◌∙◌}
use mathlib.Core.List.{List}
use Rattle.dispatcher.specs.Unsound.{unsound_refusals}
use Rattle.dispatcher.specs.Reports.{plain_of}
use Rattle.dispatcher.specs.Promise.{Answered}
use Rattle.dispatcher.specs.Fresh.{Freshly}
use Rattle.dispatcher.specs.declared.Dispatcher.{Dispatcher}
use Rattle.dispatcher.specs.declared.TaskRecord.{TaskRecord}
use Rattle.dispatcher.specs.declared.Outcome.{Outcome}
use Rattle.dispatcher.specs.declared.PlainReport.{PlainReport}
use Rattle.dispatcher.proofs.Same.{answered_same, freshly_same}
use Rattle.tasks.specs.Create.{Creates}
use Rattle.tasks.proofs.Same.{creates_same}
use Rattle.readiness.specs.Wake.{Wakes}
use Rattle.readiness.specs.Block.{Blocks}
use Rattle.readiness.proofs.Same.{wakes_same, blocks_same}
use Rattle.deletion.specs.Delete.{Deletes}
use Rattle.deletion.proofs.Same.{deletes_same}
use Rattle.boot.specs.Load.{Loads}
use Rattle.boot.specs.declared.Loaded.{Loaded}
use Rattle.boot.proofs.Same.{loads_same}
use Rattle.files.specs.Reading.{Reads, ReadsRecord, ReadsEvent}
use Rattle.files.proofs.Same.{reads_same, record_same, event_same}
use Rattle.lines.specs.Line.{Writes, WritesFault}
use Rattle.lines.specs.declared.Line.{Line}
use Rattle.lines.proofs.Same.{writes_same, writes_fault_same}
use Rattle.cpusets.specs.Reading.{plain_of as plainSet}
use Rattle.cpusets.specs.declared.PlainReading.{PlainReading}
use Rattle.cpulists.specs.Promise.{ReadsList, WritesList}
use Rattle.cpulists.proofs.Same.{list_reads_same, list_writes_same}
use Rattle.cpumasks.specs.Promise.{ReadsMask, WritesMask}
use Rattle.cpumasks.proofs.Same.{mask_reads_same, mask_writes_same}
use Rattle.makxirund.specs.InPlace.{InPlace, plain_load_of, LoadsInPlace}
use Rattle.makxirund.specs.Plain.{plain_answer, plain_reading, plain_record, plain_event, plain_written_of, InPlain}
use Rattle.makxirund.specs.CoreSets.{plain_text_of}
use Rattle.makxirund.specs.declared.PlainAnswer.{PlainAnswer}
use Rattle.makxirund.specs.declared.PlainLoadReport.{PlainLoadReport}
use Rattle.makxirund.specs.declared.PlainLayout.{PlainLayout}
use Rattle.makxirund.specs.declared.PlainRecord.{PlainRecord}
use Rattle.makxirund.specs.declared.PlainEvent.{PlainEvent}
use Rattle.makxirund.specs.declared.PlainWritten.{PlainWritten}

-- ---- the calls in place

pub in_place_same : {P : Outcome → Type 0} {after after' : Dispatcher} {r r' : PlainReport} → ((a b : Outcome) → P a → P b → a ≡ b) → InPlace P after r → InPlace P after' r' → (after ≡ after') × (r ≡ r')
in_place_same one x y =
    let same = one x.outcome y.outcome x.by_value y.by_value in
    (x.stored ∙ ap (λ (o : Outcome). o.dispatcher) same ∙ sym y.stored, x.told ∙ ap (λ (o : Outcome). plain_of o.report) same ∙ sym y.told)

pub fresh_same : {cores : ℕ} {after after' : Dispatcher} {r r' : PlainReport} → InPlace (Freshly cores) after r → InPlace (Freshly cores) after' r' → (after ≡ after') × (r ≡ r')
fresh_same = in_place_same (λ a b. freshly_same)

pub create_same : {d : Dispatcher} {slot priority mask : ℕ} {after after' : Dispatcher} {r r' : PlainReport}
    → InPlace (Creates d slot priority mask) after r → InPlace (Creates d slot priority mask) after' r' → (after ≡ after') × (r ≡ r')
create_same = in_place_same (λ a b. creates_same)

pub delete_same : {d : Dispatcher} {slot : ℕ} {after after' : Dispatcher} {r r' : PlainReport} → InPlace (Deletes d slot) after r → InPlace (Deletes d slot) after' r' → (after ≡ after') × (r ≡ r')
delete_same = in_place_same (λ a b. deletes_same)

pub wake_same : {d : Dispatcher} {slot : ℕ} {after after' : Dispatcher} {r r' : PlainReport} → InPlace (Wakes d slot) after r → InPlace (Wakes d slot) after' r' → (after ≡ after') × (r ≡ r')
wake_same = in_place_same (λ a b. wakes_same)

pub block_same : {d : Dispatcher} {slot : ℕ} {after after' : Dispatcher} {r r' : PlainReport} → InPlace (Blocks d slot) after r → InPlace (Blocks d slot) after' r' → (after ≡ after') × (r ≡ r')
block_same = in_place_same (λ a b. blocks_same)

pub load_same : {d : Dispatcher} {list : List TaskRecord} {after after' : Dispatcher} {r r' : PlainLoadReport} → LoadsInPlace (Loads d list) after r → LoadsInPlace (Loads d list) after' r' → (after ≡ after') × (r ≡ r')
load_same x y =
    let same = loads_same x.by_value y.by_value in
    (x.stored ∙ ap (λ (l : Loaded). l.dispatcher) same ∙ sym y.stored, x.told ∙ ap (λ (l : Loaded). plain_load_of l.report) same ∙ sym y.told)

-- ---- the soundness check, the file reader and the line writer

pub in_plain_same : {A B : Type 0} {P : A → Type 0} {plain : A → B} {r r' : B} → ((a b : A) → P a → P b → a ≡ b) → InPlain P plain r → InPlain P plain r' → r ≡ r'
in_plain_same {plain = plain} one x y = x.told ∙ ap plain (one x.said y.said x.promised y.promised) ∙ sym y.told

pub sound_same : {d : Dispatcher} {r r' : PlainAnswer} → InPlain (Answered (unsound_refusals d) d) plain_answer r → InPlain (Answered (unsound_refusals d) d) plain_answer r' → r ≡ r'
sound_same = in_plain_same (λ a b. answered_same)

pub read_same : {b : List ℕ} {r r' : PlainLayout} → InPlain (Reads b) plain_reading r → InPlain (Reads b) plain_reading r' → r ≡ r'
read_same {b} = in_plain_same (reads_same b)

pub record_found_same : {b : List ℕ} {i : ℕ} {r r' : PlainRecord} → InPlain (ReadsRecord b i) plain_record r → InPlain (ReadsRecord b i) plain_record r' → r ≡ r'
record_found_same {b} {i} = in_plain_same (record_same b i)

pub event_found_same : {b : List ℕ} {i : ℕ} {r r' : PlainEvent} → InPlain (ReadsEvent b i) plain_event r → InPlain (ReadsEvent b i) plain_event r' → r ≡ r'
event_found_same {b} {i} = in_plain_same (event_same b i)

-- what was said, and every byte of a lent buffer
in_plain_bytes_same : {A B : Type 0} {P P' : A → Type 0} {plain : A → B} {after after' : List ℕ} {r r' : B}
    → ((a b : A) → P a → P' b → (a ≡ b) × (after ≡ after')) → InPlain P plain r → InPlain P' plain r' → (r ≡ r') × (after ≡ after')
in_plain_bytes_same {plain = plain} one x y =
    let same = one x.said y.said x.promised y.promised in
    (x.told ∙ ap plain same.0 ∙ sym y.told, same.1)

-- a line, and the line of a fault
pub line_same : (l : Line) (d : Dispatcher) {before after after' : List ℕ} {r r' : PlainWritten}
    → InPlain (Writes l d before after) plain_written_of r → InPlain (Writes l d before after') plain_written_of r' → (r ≡ r') × (after ≡ after')
line_same l d = in_plain_bytes_same (λ a b. writes_same l d)

pub fault_same : (n offset : ℕ) {before after after' : List ℕ} {r r' : PlainWritten}
    → InPlain (WritesFault n offset before after) plain_written_of r → InPlain (WritesFault n offset before after') plain_written_of r' → (r ≡ r') × (after ≡ after')
fault_same n offset = in_plain_bytes_same (λ a b. writes_fault_same n offset)

-- ---- core sets

pub read_list_same : {n : ℕ} {t : List ℕ} {r r' : PlainReading} → InPlain (ReadsList n t) plainSet r → InPlain (ReadsList n t) plainSet r' → r ≡ r'
read_list_same {n} {t} = in_plain_same (list_reads_same n t)

pub read_mask_same : {n : ℕ} {t : List ℕ} {r r' : PlainReading} → InPlain (ReadsMask n t) plainSet r → InPlain (ReadsMask n t) plainSet r' → r ≡ r'
read_mask_same {n} {t} = in_plain_same (mask_reads_same n t)

pub write_list_same : {n s : ℕ} {before after after' : List ℕ} {r r' : PlainWritten}
    → InPlain (WritesList n s before after) plain_text_of r → InPlain (WritesList n s before after') plain_text_of r' → (r ≡ r') × (after ≡ after')
write_list_same = in_plain_bytes_same (λ a b. list_writes_same)

pub write_mask_same : {n s : ℕ} {before after after' : List ℕ} {r r' : PlainWritten}
    → InPlain (WritesMask n s before after) plain_text_of r → InPlain (WritesMask n s before after') plain_text_of r' → (r ≡ r') × (after ≡ after')
write_mask_same = in_plain_bytes_same (λ a b. mask_writes_same)
