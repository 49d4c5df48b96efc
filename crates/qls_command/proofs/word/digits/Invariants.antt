use Rattle.std.proofs.Common.{◌≡◌, ◌^◌, ◌<◌, drop}
use Rattle.std.specs.List.{fold}
use Rattle.std.specs.Str.{all_ascii_digits}
use Rattle.qls_command.specs.Lines.{digits_value}
use Rattle.qls_command.proofs.Numbers.{with_digit}
use Rattle.qls_command.proofs.word.digits.Given as goal

abbrev pub invariant-loop-byte : goal.invariant-loop-byte
invariant-loop-byte l = record {
  digits : all_ascii_digits (drop l.byte-index l.word) ≡ all_ascii_digits l.word;
  so_far : fold with_digit l.value (drop l.byte-index l.word) ≡ digits_value l.word;
  below : l.value < 10 ^ l.byte-index;
}
