-- One step of a reader, by the bytes of its files.
use Rattle.std.proofs.Common.{◌≡◌, ℕ, ◌+◌, ◌-◌, ◌≤◌, Bool, List, length, take, drop, Option, Some, None, Ok, refl, sym, ap, ◌∙◌, subst, arith, length-take, length-drop}
use Rattle.std.specs.Prelude.{IfSome}
use Rattle.std.specs.Option.{option_map}
use Rattle.qls_shape.specs.declared.Version.TheVariants.{Two}
use Rattle.qls_shape.specs.Lengths.{padded_length}
use Rattle.qls_record.specs.declared.Head.{Head}
use Rattle.qls_record.specs.declared.Got.{Got}
use Rattle.qls_record.specs.Record.{Record, header_length, record_length}
use Rattle.qls_record.specs.Head.{head_record_length}
use Rattle.qls_site.specs.Content.{Content, Tells}
use Rattle.qls_meaning.specs.Journals.{Headed}
use Rattle.qls_meaning.specs.Reading.{Holder, holder, stream, record_in, held_record, held_length, length_in, number_of, read_of}
use Rattle.qls_reader.specs.declared.spot.FileSpot.{FileSpot}
use Rattle.qls_reader.specs.declared.spot.Position.{Position}
use Rattle.qls_reader.specs.declared.window.Window.{Window}
use Rattle.qls_reader.specs.declared.reader.Next.{Next}
use Rattle.qls_reader.specs.declared.reader.Next.TheVariants as next
use Rattle.qls_reader.specs.Spots.{AreSpotsOf, AreSeen}
use Rattle.qls_reader.specs.Places.{IsWithin, place_at}
use Rattle.qls_reader.specs.Windows.{AreAhead, held, IsAhead}
use Rattle.qls_reader.specs.Reads.{OnlyReads}
use Rattle.qls_reader.specs.Records.{record_on, record_from, body_place}
use Rattle.qls_reader.specs.States.{ReaderState, ReadsNext, Steps, IsLocated}
use Rattle.qls_reader.proofs.Stream.{seen_spots, record_there}
use Rattle.qls_reader.proofs.Ahead.{ahead_still, ahead_on}

-- a record that is read has its own length
length_held : (bytes : List ℕ) (h : Option Holder) (r : Record) → held_record bytes h ≡ Some r → held_length h r ≡ record_length Two r
length_held bytes None r e = absurd (cc)
length_held bytes (Some h) r e = refl

length_read : (fs : List Headed) (p : ℕ) (r : Record) → record_in fs p ≡ Some r → length_in fs p r ≡ record_length Two r
length_read fs p r e = length_held (drop p (stream fs)) (holder fs p) r e

-- where its bytes are there, it has the length that the head tells
length_from : (bytes : List ℕ) (h : Head) → head_record_length h ≤ length bytes → record_length Two (record_from bytes h) ≡ head_record_length h
length_from bytes h whole =
    let xid : length (take h.xid_size (drop (header_length Two h.kind) bytes)) ≡ h.xid_size =
    length-take h.xid_size (drop (header_length Two h.kind) bytes) ∙ omega (arith, whole, length-drop (header_length Two h.kind) bytes) in
    let body : length (take h.body_size (drop (body_place h) bytes)) ≡ h.body_size =
    length-take h.body_size (drop (body_place h) bytes) ∙ omega (arith, whole, length-drop (body_place h) bytes) in
    ap padded_length (omega (arith, xid, body))

abbrev pub state : List FileSpot → Position → List ℕ → Bool → ReaderState
state files at ahead ended = record { files = files; place = place_at files at; held = ahead; ended = ended }

-- no record stands there
pub ends_next : (files rest : List FileSpot) (at : Position) (ahead : List ℕ) (ended : Bool) (old new : ReaderState) (a : Option Content) (bytes : List ℕ) (o : Option Head) (r : Next) (file end : ℕ)
    → state files at ahead ended ≡ old → IfSome a (λ c. option_map (record_from bytes) o ≡ record_on c.now.disk (drop at.file rest) at.within) → rest ≡ files → IsWithin at.within (drop at.file files)
    → o ≡ None → r ≡ next.End file end → IfSome a (λ c. (fs : List Headed) → AreSeen c.now.disk old.files fs → ReadsNext fs old new (Ok r))
ends_next files rest at ahead ended old new None bytes o r file end view stands same within none is = tt
ends_next files rest at ahead ended old new (Some c) bytes o r file end view stands same within none is =
    subst (λ (s : ReaderState). (fs : List Headed) → AreSeen c.now.disk s.files fs → ReadsNext fs s new (Ok r)) view (λ fs seen.
    let read : record_in fs (place_at files at) ≡ None =
    record_there c.now.disk at.file at.within files fs seen within ∙ ap (λ (ss : List FileSpot). record_on c.now.disk (drop at.file ss) at.within) (sym same) ∙ sym stands
    ∙ ap (option_map (record_from bytes)) none in
    subst (λ (n : Next). ReadsNext fs (state files at ahead ended) new (Ok n)) (sym is) read)

-- a record stands there, and is handed out
pub gets_next : (files rest second : List FileSpot) (at from after : Position) (ahead : List ℕ) (ended : Bool) (old new : ReaderState) (a : Option Content) (bytes : List ℕ) (o : Option Head) (head : Head) (got : Got)
    → state files at ahead ended ≡ old → IfSome a (λ c. option_map (record_from bytes) o ≡ record_on c.now.disk (drop at.file rest) at.within) → rest ≡ files → second ≡ files → from ≡ at
    → IsWithin at.within (drop at.file files) → o ≡ Some head → head_record_length head ≤ length bytes → (read_of got).what ≡ record_from bytes head
    → ((fs : List Headed) → AreSpotsOf second fs → IsLocated fs (place_at second from) (head_record_length head) got)
    → place_at second after ≡ place_at second from + head_record_length head → new.place ≡ place_at files after
    → IfSome a (λ c. (fs : List Headed) → AreSeen c.now.disk old.files fs → ReadsNext fs old new (Ok (next.Got got)))
gets_next files rest second at from after ahead ended old new None bytes o head got view stands same two here within some whole what located_there behind placed = tt
gets_next files rest second at from after ahead ended old new (Some c) bytes o head got view stands same two here within some whole what located_there behind placed =
    subst (λ (s : ReaderState). (fs : List Headed) → AreSeen c.now.disk s.files fs → ReadsNext fs s new (Ok (next.Got got))) view (λ fs seen.
    let place : ℕ = place_at files at in
    let read : record_in fs place ≡ Some (read_of got).what =
    record_there c.now.disk at.file at.within files fs seen within ∙ ap (λ (ss : List FileSpot). record_on c.now.disk (drop at.file ss) at.within) (sym same) ∙ sym stands
    ∙ ap (option_map (record_from bytes)) some ∙ ap Some (sym what) in
    let size : length_in fs place (read_of got).what ≡ head_record_length head =
    length_read fs place (read_of got).what read ∙ ap (record_length Two) what ∙ length_from bytes head whole in
    let next_place : new.place ≡ place + head_record_length head =
    placed ∙ (λ i. place_at (sym two i) after) ∙ behind ∙ (λ i. place_at (two i) (here i) + head_record_length head) in
    let located_here : IsLocated fs place (head_record_length head) got =
    subst (λ (p : Position). IsLocated fs (place_at files p) (head_record_length head) got) here
    (subst (λ (ss : List FileSpot). (gs : List Headed) → AreSpotsOf ss gs → IsLocated gs (place_at ss from) (head_record_length head) got) two located_there fs (seen_spots c.now.disk files fs seen)) in
    let last : got.end_file ≡ number_of (holder fs (new.place - 1)) = located_here.end_file ∙ ap (λ p. number_of (holder fs (p - 1))) (sym next_place) in
    let file = located_here.file in
    let in_file = located_here.at in
    record {
      stands = read;
      after = next_place ∙ ap (λ n. place + n) (sym size);
      there = λ i. record { what = (read_of got).what; file = file i; at = in_file i; end_file = last i };
    })

-- what is held then stands behind it
pub ahead_passed : (files rest second : List FileSpot) (old new : Window) (n : ℕ) (a b : Option Content) → Tells OnlyReads a b → rest ≡ files → second ≡ files
    → IfSome a (λ c. IsAhead c.now.disk rest old) → n ≤ length (held old) → place_at second new.at ≡ place_at second old.at + n → held new ≡ drop n (held old)
    → IfSome b (λ c. AreAhead c.now.disk files (place_at files new.at) (held new))
ahead_passed files rest second old new n a b told same two ahead l after passed = go b (ahead_still rest old a b told ahead)
  where
    go : (b : Option Content) → IfSome b (λ c. IsAhead c.now.disk rest old) → IfSome b (λ c. AreAhead c.now.disk files (place_at files new.at) (held new))
    go None h = tt
    go (Some c) h =
        let on : AreAhead c.now.disk files (place_at files old.at + n) (drop n (held old)) =
        ahead_on c.now.disk files (place_at files old.at) n (held old) l (subst (λ (ss : List FileSpot). IsAhead c.now.disk ss old) same h) in
        let place : place_at files old.at + n ≡ place_at files new.at = sym (subst (λ (ss : List FileSpot). place_at ss new.at ≡ place_at ss old.at + n) two after) in
        subst (λ (bs : List ℕ). AreAhead c.now.disk files (place_at files new.at) bs) (sym passed) (subst (λ p. AreAhead c.now.disk files p (drop n (held old))) place on)

pub there_is : (P : Head → Type 0) (o : Option Head) (h : Head) → IfSome o P → o ≡ Some h → P h
there_is P o h held e = subst (λ o. IfSome o P) e held

-- by the answer alone
pub same_files : (old new : ReaderState) (r : Next) (got : Got) → r ≡ next.Got got → Steps old new (Ok r) → new.files ≡ old.files
same_files old new r got e h = let steps : Steps old new (Ok (next.Got got)) = subst (λ x. Steps old new (Ok x)) e h in steps.2
