-- How errors of a check are printed: by name, with the number in parentheses.
use Rattle.std.specs.Prelude.{ℕ, List, codes}
use Rattle.cert_check.specs.declared.fault.CheckFault.{CheckFault}
use Rattle.cert_check.specs.declared.fault.CheckFault.TheVariants as check
use Rattle.report_texts.specs.Faults.Numbered.{name_with_number}

abbrev pub check_text : CheckFault → List ℕ
check_text (check.BadSizes line) = name_with_number (codes "BadSizes") line
check_text (check.BadCertificate line) = name_with_number (codes "BadCertificate") line
check_text (check.NotForced line) = name_with_number (codes "NotForced") line
check_text (check.NotAJump line) = name_with_number (codes "NotAJump") line
check_text (check.Repeated line) = name_with_number (codes "Repeated") line
check_text (check.StillShort k) = name_with_number (codes "StillShort") k
check_text check.WrongTotal = codes "WrongTotal"
check_text (check.NotOutOfRange k) = name_with_number (codes "NotOutOfRange") k
check_text check.NoMemory = codes "NoMemory"
