-- What is said on standard error of an exit status.
use Rattle.std.specs.Prelude.{ℕ, ◌==◌, List, [], codes, if◌then◌else◌}

abbrev pub status_line : ℕ → List ℕ
status_line status =
    if status == 4 then codes "the input can't be read\n"
    else if status == 5 then codes "the output can't be written\n"
    else if status == 6 then codes "memory ran out\n"
    else if status == 8 then codes "the words of the command line can't be had\n"
    else []
