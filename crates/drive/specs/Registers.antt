-- The drive's registers, and what may be written to them.
use Rattle.std.specs.Prelude.{ℕ, ◌-◌, Bool, cond, ℤ, pos, negsuc, Ok, Err, Result, ◌==◌, nat_lt}
use Rattle.station.specs.declared.refusal.Refusal.{Refusal}
use Rattle.station.specs.declared.refusal.Refusal.TheVariants.{NoSuch, NotAllowed}
use Rattle.drive.specs.declared.register.Register.{Register}
use Rattle.drive.specs.declared.register.Register.TheVariants.{Setpoint, Listen, Fall}

abbrev pub numbered : ℕ → Result Register Refusal
numbered n = cond (n == 0) (Ok Setpoint) (cond (n == 1) (Ok Listen) (cond (n == 2) (Ok Fall) (Err NoSuch)))

abbrev pub bit : Bool → ℕ
bit b = cond b 1 0

-- bit 0 alone
abbrev pub flag : ℕ → Result Bool Refusal
flag value = cond (nat_lt value 2) (Ok (value == 1)) (Err NotAllowed)

-- sixteen bits in two's complement
abbrev pub word : ℕ → Result ℤ Refusal
word value = cond (nat_lt value 0x10000) (Ok (cond (nat_lt value 0x8000) (pos value) (negsuc (0xffff - value)))) (Err NotAllowed)

abbrev pub bits16 : ℤ → ℕ
bits16 (pos n) = n
bits16 (negsuc n) = 0xffff - n
