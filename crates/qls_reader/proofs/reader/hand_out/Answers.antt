use Rattle.std.proofs.Common.{◌≡◌, ℕ, ◌+◌, ◌-◌, take, drop, ap, sym, ◌∙◌, arith}
use Rattle.qls_record.specs.Head.{head_record_length}
use Rattle.qls_meaning.specs.Reading.{holder, number_of, place_of}
use Rattle.qls_reader.specs.Spots.{all_length}
use Rattle.qls_reader.proofs.Stream.{holder_rest, spots_rest, number_there, place_there}
use Rattle.qls_reader.proofs.Ahead.{room_behind}
use Rattle.qls_reader.proofs.Parts.{head_least}
use Rattle.qls_reader.proofs.reader.hand_out.Goals as goal

pub settled-requires-clause-range : goal.settled-requires-clause-range
settled-requires-clause-range c =
    room_behind c.args.files.now c.args.window.now (c.length-whole.result - 1) c.requires.sound (omega (arith, c.length-whole.ensures, c.requires.whole))

pub settled-window-requires-clause-range : goal.settled-window-requires-clause-range
settled-window-requires-clause-range c =
    room_behind c.args.files.now c.args.window.now c.length-whole.result c.requires.sound (omega (arith, c.length-whole.ensures, c.requires.whole))

pub returns-clause-there : goal.returns-clause-there
returns-clause-there c = λ fs h.
    let k : ℕ = c.args.window.now.at.file in
    let w : ℕ = c.args.window.now.at.within in
    let start : holder fs (all_length (take k c.args.files.now) + w) ≡ holder (drop k fs) w = holder_rest k w c.args.files.now fs h in
    let last : all_length (take c.settled.result.file c.args.files.now) + c.settled.result.within ≡ all_length (take k c.args.files.now) + w + head_record_length c.args.head - 1 =
    omega (arith, c.settled.ensures.same, c.length-whole.ensures, head_least c.args.head) in
    let end : holder fs (all_length (take k c.args.files.now) + w + head_record_length c.args.head - 1) ≡ holder (drop c.settled.result.file fs) c.settled.result.within =
    ap (holder fs) (sym last) ∙ holder_rest c.settled.result.file c.settled.result.within c.args.files.now fs h in
    let room = room_behind c.args.files.now c.args.window.now (head_record_length c.args.head) c.requires.sound c.requires.whole in
    record {
      file = c.number.ensures.exact ∙ number_there w (drop k c.args.files.now) (drop k fs) (spots_rest k c.args.files.now fs h) c.requires.sound.at.within ∙ ap number_of (sym start);
      at = place_there w (head_record_length c.args.head) (drop k c.args.files.now) (drop k fs) (spots_rest k c.args.files.now fs h) c.requires.sound.at.within (omega (arith, head_least c.args.head)) room ∙ ap place_of (sym start);
      end_file = c.number-2.ensures.exact
          ∙ number_there c.settled.result.within (drop c.settled.result.file c.args.files.now) (drop c.settled.result.file fs) (spots_rest c.settled.result.file c.args.files.now fs h) c.settled.ensures.placed.within
          ∙ ap number_of (sym end);
    }
