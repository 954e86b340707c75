-- The functions that use neither the console nor the disk: 12, 13, 14, 24, 25, 26 and 32. (CP/M 2.2 Interface Guide.)
use Rattle.std.specs.Prelude.{◌%◌, ◌==◌, ℕ, Result, Ok, Err, if◌then◌else◌}
use Rattle.cpm_image.specs.declared.directory.entry.TheConstants.{USERS}
use Rattle.cpm_disk.specs.declared.control.stop.Stop.{Stop}
use Rattle.cpm_disk.specs.declared.control.stop.Stop.TheVariants as stop
use Rattle.cpm_bdos.specs.declared.function.SettingCall.{SettingCall}
use Rattle.cpm_bdos.specs.declared.function.SettingCall.TheVariants as setting
use Rattle.cpm_bdos.specs.declared.setting.Settings.{Settings}

-- the value that a function answers, the DMA address and the user
abbrev pub settings : ℕ → ℕ → ℕ → Settings
settings value dma user = record { value = value; dma = dma; user = user }

-- the address of the DMA buffer after a reset
abbrev pub first_dma : ℕ
first_dma = 0x0080

-- function 14: there is only drive A
abbrev pub selected : ℕ → ℕ → ℕ → Result Settings Stop
selected drive dma user = if drive == 0 then Ok (settings 0 dma user) else Err stop.UnknownDrive

-- function 32: FFH answers the user, and any other byte modulo 32 becomes the user
abbrev pub user_set : ℕ → ℕ → ℕ → Settings
user_set byte dma user = if byte == 0xFF then settings user dma user else settings 0 dma (byte % USERS)

abbrev pub set_by : SettingCall → ℕ → ℕ → ℕ → Result Settings Stop
set_by setting.Version argument dma user = Ok (settings 0x0022 dma user)
set_by setting.ResetDisks argument dma user = Ok (settings 0 first_dma user)
set_by setting.SelectDisk argument dma user = selected (argument % 256) dma user
set_by setting.LoginVector argument dma user = Ok (settings 0x0001 dma user)
set_by setting.CurrentDisk argument dma user = Ok (settings 0 dma user)
set_by setting.SetDma argument dma user = Ok (settings 0 argument user)
set_by setting.UserCode argument dma user = Ok (user_set (argument % 256) dma user)
