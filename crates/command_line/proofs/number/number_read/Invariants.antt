use Rattle.std.{proofs.Common.{◌≡◌, ◌<◌, ◌^◌, true, take}, specs.List.list_all}
use Rattle.command_line.specs.Number.{is_decimal_digit, decimal_value}
use Rattle.command_line.proofs.number.number_read.Given as goal

abbrev pub invariant-loop-byte : goal.invariant-loop-byte
invariant-loop-byte l = record {
  value : l.value ≡ decimal_value (take l.byte-index l.text);
  small : l.value < 10 ^ l.byte-index;
  digits : list_all is_decimal_digit (take l.byte-index l.text) ≡ true;
}
