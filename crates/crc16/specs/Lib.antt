pub mod Crc16
