-- The journals of a store, read one after another, where the site tells its content.
use Rattle.std.proofs.Common.{◌≡◌, ℕ, true, false, cond, List, [], ◌∷◌, ◌++◌, map, Option, Some, None, IfSome, Result, Ok, Err, refl, ap, sym, subst, ◌∙◌, append_assoc, append-nil}
use Rattle.std.specs.List.{AllByRecursion, filter, filter_map}
use Rattle.std.specs.HashMap.{get as looked_up}
use Rattle.qls_model.specs.Bytes.{same}
use Rattle.qls_shape.specs.Claims.{each, ◌>>=◌}
use Rattle.qls_site.specs.Disk.{Image, full}
use Rattle.qls_site.specs.Content.{Content, Moment, Tells, OnlyLooks}
use Rattle.qls_model.specs.Messages.{decided}
use Rattle.qls_model.specs.Machine.{MachineState}
use Rattle.qls_model.specs.Ends.{messages_left}
use Rattle.qls_model.specs.declared.machine.QueueState.{QueueState}
use Rattle.qls_model.specs.declared.machine.Verdict.{Verdict}
use Rattle.qls_record.specs.declared.Got.{Got}
use Rattle.qls_filehdr.specs.declared.JournalKind.{JournalKind}
use Rattle.qls_filehdr.specs.declared.JournalKind.TheVariants.{Queue, List as Listed}
use Rattle.qls_decide.specs.declared.ListEntry.{ListEntry}
use Rattle.qls_decide.specs.Entries.{entry_of, state_of, verdict_for, verdict_by}
use Rattle.qls_replay.specs.Held.{messages_of, held_after_all}
use Rattle.qls_meaning.specs.Journals.{Journal, is_queue}
use Rattle.qls_meaning.specs.Reading.{read_of}
use Rattle.qls_meaning.specs.Damage.{Damage, Checked, reading_claims}
use Rattle.qls_meaning.specs.Replay.{entries_after}
use Rattle.qls_meaning.specs.Meaning.{records_of, queue_of, queues_of, entries_of, in_doubt, meaning_of}
use Rattle.qls_scan.specs.declared.answers.JournalFiles.{JournalFiles}
use Rattle.qls_scan.specs.Found.{goes_before, kind_before, JournalsRise}
use Rattle.qls_reading.specs.ReadLogs.{ReadLogState, IsReadWhole, journal_in}
use Rattle.qls_reading.specs.ReadLogs as reading
use Rattle.qls_look.specs.declared.fault.OpenFault.{OpenFault}
use Rattle.qls_look.specs.declared.fault.OpenFault.TheVariants.{Failed, Draw, Spent, Memory, Damaged}
use Rattle.qls_look.specs.declared.seen.Seen.{Seen}
use Rattle.qls_look.specs.Looking.{Says}
use Rattle.qls_look.specs.Seen.{Sight, NamesBefore, sight_of, answered, sight_by, with_last, seen_with}
use Rattle.qls_look.proofs.Lists.{whats, entries_whole}
use Rattle.qls_look.proofs.Queues.{queue_whole}

pub entries_told : (o : Option Content) (files : JournalFiles) (log : ReadLogState) (gs : List Got) (es : List ListEntry) → IfSome o (λ c. reading.Says (journal_in (full c.now.disk) files) (Ok (log, gs)))
    → es ≡ entries_after (whats gs) [] → IfSome o (λ c. let j = journal_in (full c.now.disk) files in Says (answered (entries_after (records_of j) []) (reading_claims j)) (Ok es))
entries_told None files log gs es s e = tt
entries_told (Some c) files log gs es s e =
    let j = journal_in (full c.now.disk) files in
    ap (answered (entries_after (records_of j) [])) s.rules ∙ ap (λ (fs : List ListEntry). Ok fs) (sym (e ∙ entries_whole j log gs s))

pub queue_told : (o : Option Content) (v : List ℕ → Verdict) (files : JournalFiles) (log : ReadLogState) (gs : List Got) (q : QueueState) → IfSome o (λ c. reading.Says (journal_in (full c.now.disk) files) (Ok (log, gs)))
    → q ≡ record { name = files.name; last = log.rid; messages = messages_left v (messages_of (held_after_all (map read_of gs) [])) }
    → IfSome o (λ c. let j = journal_in (full c.now.disk) files in Says (answered (decided v (queue_of j)) (reading_claims j)) (Ok q))
queue_told None v files log gs q s e = tt
queue_told (Some c) v files log gs q s e =
    let j = journal_in (full c.now.disk) files in
    ap (answered (decided v (queue_of j))) s.rules ∙ ap (λ (p : QueueState). Ok p) (sym (e ∙ queue_whole v j log gs s))

ok_is : {A E : Type 0} (a b : A) → (let r : Result A E = Ok a in r ≡ Ok b) → a ≡ b
ok_is a b e = cc

-- ---- one more journal

pub sight_is : (seen : Seen) (es : List ListEntry) → seen.state ≡ record { queues = []; xids = filter_map in_doubt es } → ((x : List ℕ) → looked_up same seen.states x ≡ state_of (entry_of x es)) → sight_of seen ≡ sight_by es
sight_is seen es e h = λ i. record { state = e i; verdict = λ x. verdict_for (h x i) }

module _ (j : Journal) (old new : Sight) where
  list_by : (r : Checked) (es : List ListEntry) → j.kind ≡ Listed → answered (entries_after (records_of j) []) r ≡ Ok es → new ≡ sight_by es → answered (seen_with j old) r ≡ Ok new
  list_by (Ok u) es k e n =
      let is : entries_after (records_of j) [] ≡ es = ok_is _ _ e in
      ap (λ b. Ok (cond b (with_last (queue_of j) old) (sight_by (entries_after (records_of j) [])))) (ap is_queue k) ∙ ap (λ (s : Sight). Ok s) (ap sight_by is ∙ sym n)
  list_by (Err x) es k e n = absurd (cc)

  queue_by : (r : Checked) (q : QueueState) → j.kind ≡ Queue → answered (decided old.verdict (queue_of j)) r ≡ Ok q → new ≡ record old { state = record old.state { queues = old.state.queues ++ q ∷ [] } } → answered (seen_with j old) r ≡ Ok new
  queue_by (Ok u) q k e n =
      let is : decided old.verdict (queue_of j) ≡ q = ok_is _ _ e in
      ap (λ b. Ok (cond b (with_last (queue_of j) old) (sight_by (entries_after (records_of j) [])))) (ap is_queue k)
      ∙ ap (λ (p : QueueState). Ok (record old { state = record old.state { queues = old.state.queues ++ p ∷ [] } })) is ∙ ap (λ (s : Sight). Ok s) (sym n)
  queue_by (Err x) q k e n = absurd (cc)

pub list_seen : (o : Option Content) (files : JournalFiles) (old new : Sight) (es : List ListEntry) → files.kind ≡ Listed
    → IfSome o (λ c. let j = journal_in (full c.now.disk) files in Says (answered (entries_after (records_of j) []) (reading_claims j)) (Ok es)) → new ≡ sight_by es
    → IfSome o (λ c. let j = journal_in (full c.now.disk) files in Says (answered (seen_with j old) (reading_claims j)) (Ok new))
list_seen None files old new es k s n = tt
list_seen (Some c) files old new es k s n = let j = journal_in (full c.now.disk) files in list_by j old new (reading_claims j) es k s n

pub queue_seen : (o : Option Content) (files : JournalFiles) (old new : Sight) (q : QueueState) → files.kind ≡ Queue
    → IfSome o (λ c. let j = journal_in (full c.now.disk) files in Says (answered (decided old.verdict (queue_of j)) (reading_claims j)) (Ok q))
    → new ≡ record old { state = record old.state { queues = old.state.queues ++ q ∷ [] } }
    → IfSome o (λ c. let j = journal_in (full c.now.disk) files in Says (answered (seen_with j old) (reading_claims j)) (Ok new))
queue_seen None files old new q k s n = tt
queue_seen (Some c) files old new q k s n = let j = journal_in (full c.now.disk) files in queue_by j old new (reading_claims j) q k s n

-- what stops one journal stops all
pub one_stops : {X Y : Type 0} (o : Option Content) (files : JournalFiles) (x : Journal → X) (y : Journal → Y) (fault : OpenFault)
    → IfSome o (λ c. let j = journal_in (full c.now.disk) files in Says (answered (x j) (reading_claims j)) (Err fault))
    → IfSome o (λ c. let j = journal_in (full c.now.disk) files in Says (answered (y j) (reading_claims j)) (Err fault))
one_stops None files x y fault s = tt
one_stops (Some c) files x y fault s = let j = journal_in (full c.now.disk) files in by (x j) (y j) (reading_claims j) fault s
  where
    by : {X Y : Type 0} (a : X) (b : Y) (r : Checked) (fault : OpenFault) → Says (answered a r) (Err fault) → Says (answered b r) (Err fault)
    by a b r Failed s = tt
    by a b r Memory s = tt
    by a b r Draw s = s
    by a b r Spent s = s
    by a b (Ok u) (Damaged file rule) s = absurd (cc)
    by a b (Err e) (Damaged file rule) s = cc

-- ---- all journals

-- what is seen once all these are, too
abbrev pub seen_all : List Journal → Sight → Sight
seen_all [] s = s
seen_all (j ∷ js) s = seen_all js (seen_with j s)

-- all of them, or the first damage
abbrev pub all_from : Sight → List Journal → Result MachineState Damage
all_from s js = answered (seen_all js s).state (each reading_claims js)

stop_by : (m : Result MachineState Damage) (j : Journal) (js : List Journal) (s : Sight) (r : Checked) (fault : OpenFault) → m ≡ answered (seen_all js (seen_with j s)).state (r >>= λ _. each reading_claims js)
    → Says (answered (seen_with j s) r) (Err fault) → Says m (Err fault)
stop_by m j js s r Failed e h = tt
stop_by m j js s r Memory e h = tt
stop_by m j js s r Draw e h = h
stop_by m j js s r Spent e h = h
stop_by m j js s (Ok u) (Damaged file rule) e h = absurd (cc)
stop_by m j js s (Err x) (Damaged file rule) e h = e ∙ err_as x (file, rule) h
  where
    err_as : (x y : Damage) → (let a : Result Sight Damage = Err x in a ≡ Err y) → (let b : Result MachineState Damage = Err x in b ≡ Err y)
    err_as x y h = cc

go_by : (m : Result MachineState Damage) (j : Journal) (js : List Journal) (s t : Sight) (r : Checked) → m ≡ answered (seen_all js (seen_with j s)).state (r >>= λ _. each reading_claims js)
    → answered (seen_with j s) r ≡ Ok t → m ≡ all_from t js
go_by m j js s t (Ok u) e h = e ∙ ap (λ (w : Sight). all_from w js) (ok_is _ _ h)
go_by m j js s t (Err x) e h = absurd (cc)

abbrev pub within : Content → List JournalFiles → List Journal
within c fs = map (journal_in (full c.now.disk)) fs

pub seen_stops : (all fs : List JournalFiles) (f : JournalFiles) (s : Sight) (fault : OpenFault) (o n : Option Content) → Tells OnlyLooks o n
    → IfSome o (λ c. answered (meaning_of (within c all)) (each reading_claims (within c all)) ≡ all_from s (within c (f ∷ fs)))
    → IfSome n (λ c. let j = journal_in (full c.now.disk) f in Says (answered (seen_with j s) (reading_claims j)) (Err fault))
    → IfSome o (λ c. Says (answered (meaning_of (within c all)) (each reading_claims (within c all))) (Err fault))
seen_stops all fs f s fault None n t e h = tt
seen_stops all fs f s fault (Some a) None t e h = absurd t
seen_stops all fs f s fault (Some a) (Some b) t e h =
    let j = journal_in (full a.now.disk) f in
    stop_by _ j (within a fs) s (reading_claims j) fault e (subst (λ (m : Moment). let k = journal_in (full m.disk) f in Says (answered (seen_with k s) (reading_claims k)) (Err fault)) t.now h)

pub seen_next : (all fs : List JournalFiles) (f : JournalFiles) (s u : Sight) (o n : Option Content) → Tells OnlyLooks o n
    → IfSome o (λ c. answered (meaning_of (within c all)) (each reading_claims (within c all)) ≡ all_from s (within c (f ∷ fs)))
    → IfSome n (λ c. let j = journal_in (full c.now.disk) f in Says (answered (seen_with j s) (reading_claims j)) (Ok u))
    → IfSome o (λ c. answered (meaning_of (within c all)) (each reading_claims (within c all)) ≡ all_from u (within c fs))
seen_next all fs f s u None n t e h = tt
seen_next all fs f s u (Some a) None t e h = absurd t
seen_next all fs f s u (Some a) (Some b) t e h =
    let j = journal_in (full a.now.disk) f in
    go_by _ j (within a fs) s u (reading_claims j) e (subst (λ (m : Moment). let k = journal_in (full m.disk) f in answered (seen_with k s) (reading_claims k) ≡ Ok u) t.now h)

pub seen_end : (all fs : List JournalFiles) (s : Sight) (o : Option Content) → fs ≡ []
    → IfSome o (λ c. answered (meaning_of (within c all)) (each reading_claims (within c all)) ≡ all_from s (within c fs))
    → IfSome o (λ c. Says (answered (meaning_of (within c all)) (each reading_claims (within c all))) (Ok s.state))
seen_end all fs s None z e = tt
seen_end all [] s (Some c) z e = e
seen_end all (f ∷ fs) s (Some c) z e = absurd (cc)

-- ---- what they mean

queues_seen : (js : List Journal) (s : Sight) → AllByRecursion (λ j. j.kind ≡ Queue) js → (seen_all js s).state ≡ record s.state { queues = s.state.queues ++ map (decided s.verdict) (queues_of js) }
queues_seen [] s h = λ i. record s.state { queues = sym (append-nil s.state.queues) i }
queues_seen (j ∷ js) s h =
    let b : is_queue j.kind ≡ true = ap is_queue h.0 in
    ap (λ b. (seen_all js (cond b (with_last (queue_of j) s) (sight_by (entries_after (records_of j) [])))).state) b
    ∙ queues_seen js (with_last (queue_of j) s) h.1
    ∙ ap (λ (qs : List QueueState). record s.state { queues = qs }) (append_assoc s.state.queues (decided s.verdict (queue_of j) ∷ []) (map (decided s.verdict) (queues_of js)))
    ∙ ap (λ b. record s.state { queues = s.state.queues ++ map (decided s.verdict) (map queue_of (cond b (j ∷ filter (λ k. is_queue k.kind) js) (filter (λ k. is_queue k.kind) js))) }) (sym b)

no_entries : (js : List Journal) → AllByRecursion (λ j. j.kind ≡ Queue) js → entries_of js ≡ []
no_entries [] h = refl
no_entries (j ∷ js) h = ap (λ b. cond b (entries_of js) (entries_after (records_of j) [])) (ap is_queue h.0) ∙ no_entries js h.1

only_queues : (js : List Journal) → AllByRecursion (λ j. j.kind ≡ Queue) js → (seen_all js (sight_by [])).state ≡ meaning_of js
only_queues js h = queues_seen js (sight_by []) h ∙ ap (λ es. record { queues = map (decided (verdict_by es)) (queues_of js); xids = filter_map in_doubt es }) (sym (no_entries js h))

-- the prepared list first, and then queues
list_first : (j : Journal) (js : List Journal) (k : JournalKind) → j.kind ≡ k → AllByRecursion (λ j. j.kind ≡ Queue) js → (seen_all (j ∷ js) (sight_by [])).state ≡ meaning_of (j ∷ js)
list_first j js Queue e h = only_queues (j ∷ js) (e, h)
list_first j js Listed e h =
    let b : is_queue j.kind ≡ false = ap is_queue e in
    let es : List ListEntry = entries_after (records_of j) [] in
    ap (λ b. (seen_all js (cond b (with_last (queue_of j) (sight_by [])) (sight_by es))).state) b
    ∙ queues_seen js (sight_by es) h
    ∙ ap (λ b. let fs = cond b (entries_of js) es in record { queues = map (decided (verdict_by fs)) (map queue_of (cond b (j ∷ filter (λ k. is_queue k.kind) js) (filter (λ k. is_queue k.kind) js))); xids = filter_map in_doubt fs }) (sym b)

later_queues : (i : Image) (f : JournalFiles) (fs : List JournalFiles) → AllByRecursion (λ k. goes_before f k ≡ true) fs → AllByRecursion (λ j. j.kind ≡ Queue) (map (journal_in i) fs)
later_queues i f [] h = tt
later_queues i f (g ∷ fs) h = (by f.kind g.kind f.name g.name h.0, later_queues i f fs h.1)
  where
    by : (a b : JournalKind) (m n : List ℕ) → kind_before a b m n ≡ true → b ≡ Queue
    by a Queue m n e = refl
    by Queue Listed m n e = absurd (cc)
    by Listed Listed m n e = absurd (cc)

journals_mean : (i : Image) (fs : List JournalFiles) → JournalsRise fs → (seen_all (map (journal_in i) fs) (sight_by [])).state ≡ meaning_of (map (journal_in i) fs)
journals_mean i [] h = refl
journals_mean i (f ∷ fs) h = list_first (journal_in i f) (map (journal_in i) fs) f.kind refl (later_queues i f fs h.0)

pub seen_begins : (fs : List JournalFiles) (s : Sight) (o : Option Content) → JournalsRise fs → s ≡ sight_by []
    → IfSome o (λ c. answered (meaning_of (within c fs)) (each reading_claims (within c fs)) ≡ all_from s (within c fs))
seen_begins fs s None rise e = tt
seen_begins fs s (Some c) rise e =
    ap (λ (S : MachineState). answered S (each reading_claims (within c fs))) (sym (journals_mean (full c.now.disk) fs rise)) ∙ ap (λ (t : Sight). all_from t (within c fs)) (sym e)

-- ---- names

pub none_before : (fs : List JournalFiles) (qs : List QueueState) → qs ≡ [] → AllByRecursion (λ k. NamesBefore k.name qs) fs
none_before [] qs e = tt
none_before (f ∷ fs) qs e = (subst (NamesBefore f.name) (sym e) tt, none_before fs qs e)

pub before_next : (f : JournalFiles) (fs : List JournalFiles) (qs rs : List QueueState) → ((k : JournalFiles) → goes_before f k ≡ true → NamesBefore k.name qs → NamesBefore k.name rs)
    → AllByRecursion (λ k. goes_before f k ≡ true) fs → AllByRecursion (λ k. NamesBefore k.name qs) fs → AllByRecursion (λ k. NamesBefore k.name rs) fs
before_next f [] qs rs n b h = tt
before_next f (g ∷ fs) qs rs n b h = (n g b.0 h.0, before_next f fs qs rs n b.1 h.1)
